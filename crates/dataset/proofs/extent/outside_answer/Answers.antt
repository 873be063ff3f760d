-- `outside_answer` meets its contract. Assumes nothing.
use Rattle.dataset.proofs.Laws.Extent.Outside as steps
use Rattle.dataset.proofs.extent.outside_answer.Goals as goal

pub returns-then-is_outside : goal.returns-then-is_outside
returns-then-is_outside c = search steps.is-outside

pub returns : goal.returns
returns c = search steps.is-inside
