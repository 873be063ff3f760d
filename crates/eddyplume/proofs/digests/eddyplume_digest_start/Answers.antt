-- `eddyplume_digest_start` meets its contract. Assumes nothing.
use Rattle.eddyplume.proofs.Laws.Boundary as steps
use Rattle.eddyplume.proofs.digests.eddyplume_digest_start.Goals as goal

pub returns : goal.returns
returns c = search steps.started
