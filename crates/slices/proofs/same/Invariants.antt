-- `same`: the lists are the same exactly where they are from the i-th byte on.
use Rattle.slices.proofs.Laws.Comparing as steps
use Rattle.slices.proofs.same.Given as goal

abbrev pub invariant-loop-i : goal.invariant-loop-i
invariant-loop-i l = steps.SameLoop l.a l.b l.i
