-- `keeps_header` meets its contract: by its law in Kept. Assumes nothing.
use Rattle.stream.proofs.Laws.Keep.Kept as steps
use Rattle.stream.proofs.keep.keeps_header.Goals as goal

pub returns-in-Value : goal.returns-in-Value
returns-in-Value c = search steps.element-kept
