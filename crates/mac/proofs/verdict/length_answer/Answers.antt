-- `length_answer` meets its contract. Assumes nothing.
use Rattle.mac.proofs.Laws.Verdict.VerdictOfChecks as steps
use Rattle.mac.proofs.verdict.length_answer.Goals as goal

pub returns-in-None : goal.returns-in-None
returns-in-None c = search steps.length_none

pub returns-then-length-digest_length : goal.returns-then-length-digest_length
returns-then-length-digest_length c = search steps.length-wrong

pub returns-else-length-digest_length : goal.returns-else-length-digest_length
returns-else-length-digest_length c = search steps.length-right
