-- `write_own` meets its contract: each place by its law in OwnLoop. Assumes nothing.
use Rattle.std.proofs.Common.{◌-◌}
use Rattle.stream.proofs.Laws.Own.OwnLoop as steps
use Rattle.stream.proofs.own.write_own.Given as goal

abbrev pub invariant-loop-seen : goal.invariant-loop-seen
invariant-loop-seen l = steps.OwnLoop l.part.d.now l.part.x l.initial.out l.onto l.out l.at l.least l.to

abbrev pub decreases-loop-seen : goal.decreases-loop-seen
decreases-loop-seen l = l.part.x.stop - l.at
