-- `digest_by` meets its contract. Assumes nothing.
use Rattle.mac.proofs.Laws.Verdict.VerdictOfChecks as steps
use Rattle.mac.proofs.verdict.digest_by.Goals as goal

pub returns : goal.returns
returns c = search steps.sha256-digest
