-- `holding` meets its contract: a law for each arm. Assumes nothing.
use Rattle.dataset.proofs.Laws.Reading.OneElement as steps
use Rattle.dataset.proofs.reading.holding.Goals as goal

pub returns-then-delimited : goal.returns-then-delimited
returns-then-delimited c = search steps.holding-delimited

pub returns-else-delimited : goal.returns-else-delimited
returns-else-delimited c = search steps.holding-defined
