-- `list_measure` meets its contract. Assumes nothing.
use Rattle.mac.proofs.Laws.ListMode.ListMode as steps
use Rattle.mac.proofs.list_mode.list_measure.Goals as goal

pub returns : goal.returns
returns c = search steps.measure-whole
