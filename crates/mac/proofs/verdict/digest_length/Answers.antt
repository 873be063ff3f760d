-- `digest_length` meets its contract. Assumes nothing.
use Rattle.mac.proofs.Laws.Verdict.VerdictOfChecks as steps
use Rattle.mac.proofs.verdict.digest_length.Goals as goal

pub returns : goal.returns
returns c = search steps.sha256-length
