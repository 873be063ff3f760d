-- `eddyplume_lookup` meets its contract. Assumes nothing.
use Rattle.eddyplume.proofs.Laws.Boundary as steps
use Rattle.eddyplume.proofs.lookups.eddyplume_lookup.Goals as goal

pub returns : goal.returns
returns c = search steps.looked-up
