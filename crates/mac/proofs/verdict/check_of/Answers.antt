-- `check_of` meets its contract: each place by its law in VerdictOfChecks. Assumes nothing.
use Rattle.mac.proofs.Laws.Verdict.VerdictOfChecks as steps
use Rattle.mac.proofs.verdict.check_of.Goals as goal

pub returns-in-Err : goal.returns-in-Err
returns-in-Err c = search steps.check-refused

pub returns-in-Ok : goal.returns-in-Ok
returns-in-Ok c = search steps.check-said
