-- `size_answer` meets its contract: by the laws on a whole data set. Assumes nothing.
use Rattle.dataset.proofs.Laws.Reading.Loops as steps
use Rattle.dataset.proofs.reading.size_answer.Goals as goal

pub returns-then-d-gt-SIZE_LIMIT : goal.returns-then-d-gt-SIZE_LIMIT
returns-then-d-gt-SIZE_LIMIT c = search steps.size-is-over

pub returns : goal.returns
returns c = search steps.size-is-within
