-- `list_check` meets its contract. Assumes nothing.
use Rattle.std.proofs.Common.{rules}
use Rattle.mac.proofs.Laws.Verdict.VerdictOfChecks as into
use Rattle.mac.proofs.Laws.ListMode.ListMode as steps
use Rattle.mac.proofs.list_mode.list_check.Goals as goal

pub check_of-requires : goal.check_of-requires
check_of-requires c = search (into.call-room, rules)

pub returns : goal.returns
returns c = search (steps.list-checked, c.type_inv.d)
