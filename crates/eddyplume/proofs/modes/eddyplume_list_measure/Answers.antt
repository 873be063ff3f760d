-- `eddyplume_list_measure` meets its contract. Assumes nothing.
use Rattle.eddyplume.proofs.Laws.Boundary as steps
use Rattle.eddyplume.proofs.modes.eddyplume_list_measure.Goals as goal

pub returns : goal.returns
returns c = search steps.measured-to
