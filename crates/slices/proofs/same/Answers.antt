use Rattle.std.proofs.Common.{rules}
use Rattle.slices.proofs.Laws.Comparing as steps
use Rattle.slices.proofs.same.Goals as goal

pub returns-then-a-b : goal.returns-then-a-b
returns-then-a-b c = search steps.same-lengths

pub loop-i-init : goal.loop-i-init
loop-i-init c = search steps.same_start

pub returns-then-a-i : goal.returns-then-a-i
returns-then-a-i c = search (steps.same_differs, rules)

pub loop-i-preserved : goal.loop-i-preserved
loop-i-preserved c = search (steps.same-again, rules)

pub returns : goal.returns
returns c = search (steps.same_end, rules)
