-- `deeper` meets its contract: by its law in Levels. Assumes nothing.
use Rattle.std.proofs.Common.{arith}
use Rattle.dataset.proofs.Laws.Reading.Levels as steps
use Rattle.dataset.proofs.reading.deeper.Goals as goal

pub returns : goal.returns
returns c = steps.deeper-is c.args.left _ (omega arith)
