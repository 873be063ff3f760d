-- `eddyplume_digest_finish` meets its contract. Assumes nothing.
use Rattle.eddyplume.proofs.Laws.Boundary as steps
use Rattle.eddyplume.proofs.digests.eddyplume_digest_finish.Goals as goal

pub returns-then-a-eq0 : goal.returns-then-a-eq0
returns-then-a-eq0 c = search steps.finished-to

pub returns-else-a-eq0 : goal.returns-else-a-eq0
returns-else-a-eq0 c = search steps.finish-refused
