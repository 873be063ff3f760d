-- `read` meets its contract: by the laws on the answer of the reading. Assumes nothing.
use Rattle.dataset.proofs.Laws.Reading.Loops as steps
use Rattle.dataset.proofs.reading.read.Goals as goal

pub returns-in-Err : goal.returns-in-Err
returns-in-Err c = search steps.read-refused

pub returns-in-Ok : goal.returns-in-Ok
returns-in-Ok c = search steps.read-accepted
