use Rattle.std.proofs.Common.{rules}
use Rattle.slices.proofs.Laws.Writing as writing
use Rattle.slices.proofs.copy.Goals as goal

pub returns-then-size-to : goal.returns-then-size-to
returns-then-size-to c = search writing.copy-past

pub loop-i-init : goal.loop-i-init
loop-i-init c = search writing.copy_start

pub loop-i-preserved : goal.loop-i-preserved
loop-i-preserved c = search (writing.copy-again, rules)

pub returns : goal.returns
returns c = search (writing.copy-end-min, rules)
