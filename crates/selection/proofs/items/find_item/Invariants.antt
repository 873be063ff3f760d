-- `find_item` meets its contract: the invariant is `FindItemLoop`, and each place is a law of FindItemLoop. Assumes nothing.
use Rattle.std.proofs.Common.{◌-◌}
use Rattle.selection.proofs.Laws.Items.FindItemLoop as steps
use Rattle.selection.proofs.items.find_item.Given as goal

abbrev pub invariant-loop-inside : goal.invariant-loop-inside
invariant-loop-inside l = steps.FindItemLoop l.d l.x l.key l.at l.index

abbrev pub decreases-loop-inside : goal.decreases-loop-inside
decreases-loop-inside l = l.x.stop - l.at
