-- `find` meets its contract: the invariant is `FindLoop`, and each place is a law of FindLoop. Assumes nothing.
use Rattle.std.proofs.Common.{length, ◌-◌}
use Rattle.dataset.proofs.Laws.Lookup.FindLoop as steps
use Rattle.dataset.proofs.lookup.find.Given as goal

abbrev pub invariant-loop-fault : goal.invariant-loop-fault
invariant-loop-fault l = steps.FindLoop l.d l.tag l.at l.least l.before

abbrev pub decreases-loop-fault : goal.decreases-loop-fault
decreases-loop-fault l = length l.d - l.at
