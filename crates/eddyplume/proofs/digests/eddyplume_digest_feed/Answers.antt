-- `eddyplume_digest_feed` meets its contract. Assumes nothing.
use Rattle.eddyplume.proofs.Laws.Boundary as steps
use Rattle.eddyplume.proofs.digests.eddyplume_digest_feed.Goals as goal

pub returns : goal.returns
returns c = search steps.fed-to
