-- `eddyplume_sha256` meets its contract. Assumes nothing.
use Rattle.eddyplume.proofs.Laws.Boundary as steps
use Rattle.eddyplume.proofs.digests.eddyplume_sha256.Goals as goal

pub returns-then-taken-eq0 : goal.returns-then-taken-eq0
returns-then-taken-eq0 c = search steps.hashed-to

pub returns-else-taken-eq0 : goal.returns-else-taken-eq0
returns-else-taken-eq0 c = search steps.hashed-refused
