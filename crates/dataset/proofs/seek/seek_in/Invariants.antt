-- `seek_in` meets its contract: the invariant is `SeekLoop`, and each place is a law of SeekLoop. Assumes nothing.
use Rattle.std.proofs.Common.{◌-◌}
use Rattle.dataset.proofs.Laws.Seek.SeekLoop as steps
use Rattle.dataset.proofs.seek.seek_in.Given as goal

abbrev pub invariant-loop-next : goal.invariant-loop-next
invariant-loop-next l = steps.SeekLoop l.d l.x l.first l.second l.at l.least l.one l.other

abbrev pub decreases-loop-next : goal.decreases-loop-next
decreases-loop-next l = l.x.stop - l.at
