-- `verdict_of` meets its contract: each place by its law in VerdictOfChecks. Assumes nothing.
use Rattle.mac.proofs.Laws.Verdict.VerdictOfChecks as steps
use Rattle.mac.proofs.verdict.verdict_of.Goals as goal

pub returns-then-same : goal.returns-then-same
returns-then-same c = search steps.says_same

pub returns : goal.returns
returns c = search steps.says-differs
