-- `eddyplume_list_stream` meets its contract. Assumes nothing.
use Rattle.eddyplume.proofs.Laws.Boundary as steps
use Rattle.eddyplume.proofs.modes.eddyplume_list_stream.Goals as goal

pub returns : goal.returns
returns c = search steps.streamed-to
