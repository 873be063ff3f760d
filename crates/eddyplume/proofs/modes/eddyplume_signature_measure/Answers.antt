-- `eddyplume_signature_measure` meets its contract. Assumes nothing.
use Rattle.eddyplume.proofs.Laws.Boundary as steps
use Rattle.eddyplume.proofs.modes.eddyplume_signature_measure.Goals as goal

pub returns : goal.returns
returns c = search (steps.measured-to, steps.same-measure)
