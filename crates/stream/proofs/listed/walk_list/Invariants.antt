-- `walk_list` meets its contract: each place by its law in WalkListLoop. Assumes nothing.
use Rattle.std.proofs.Common.{◌-◌}
use Rattle.stream.proofs.Laws.Listed.WalkListLoop as steps
use Rattle.stream.proofs.listed.walk_list.Given as goal

abbrev pub invariant-loop-fault : goal.invariant-loop-fault
invariant-loop-fault l = steps.ListLoop l.list l.part.d.now l.part.x l.initial.out l.out l.at l.least l.found l.keep

abbrev pub decreases-loop-fault : goal.decreases-loop-fault
decreases-loop-fault l = l.part.x.stop - l.at
