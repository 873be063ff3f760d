-- `signature_check` meets its contract: each place by its law in SignatureMode. Assumes nothing.
use Rattle.std.proofs.Common.{rules, length}
use Rattle.std.specs.Prelude.{Some}
use Rattle.mac.proofs.Laws.SignatureMode.SignatureMode as steps
use Rattle.mac.proofs.signature_mode.signature_check.Goals as goal

pub write_selected-written-requires : goal.write_selected-written-requires
write_selected-written-requires c = search (steps.selected-order, steps.selected-inside)

pub check_of-requires : goal.check_of-requires
check_of-requires c =
    steps.selected-room _ _ _ _ c.select_whole.ensures _ c.in-Ok.is (Some (length c.args.expected.now)) _ _ _ c.write_selected-written.ensures (search rules)

pub returns-in-Err : goal.returns-in-Err
returns-in-Err c = search (steps.refused-checked, c.type_inv.d)

pub returns-in-Ok : goal.returns-in-Ok
returns-in-Ok c = search (steps.selected-checked, c.type_inv.d)
