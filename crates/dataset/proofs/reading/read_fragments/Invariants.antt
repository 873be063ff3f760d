-- `read_fragments` meets its contract: the invariant is `FragmentsLoop`, and each turn is a law of Loops. Assumes nothing.
use Rattle.std.proofs.Common.{◌-◌}
use Rattle.dataset.proofs.Laws.Reading.Loops as steps
use Rattle.dataset.proofs.reading.read_fragments.Given as goal

abbrev pub invariant-loop-next : goal.invariant-loop-next
invariant-loop-next l = steps.FragmentsLoop l.d l.x.left l.x.stop l.x.from l.at

abbrev pub decreases-loop-next : goal.decreases-loop-next
decreases-loop-next l = l.x.stop - l.at
