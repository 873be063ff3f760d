-- `write_fragments` meets its contract: each place by its law in FragmentsLoop. Assumes nothing.
use Rattle.std.proofs.Common.{◌-◌}
use Rattle.stream.proofs.Laws.Writer.FragmentsLoop as steps
use Rattle.stream.proofs.writer.write_fragments.Given as goal

abbrev pub invariant-loop-next : goal.invariant-loop-next
invariant-loop-next l = steps.FragmentsLoop l.d l.x.left l.x.stop l.x.from l.initial.out l.onto l.out l.at l.to

abbrev pub decreases-loop-next : goal.decreases-loop-next
decreases-loop-next l = l.x.stop - l.at
