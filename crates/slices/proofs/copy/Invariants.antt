-- `copy`: i bytes are written.
use Rattle.slices.proofs.Laws.Writing as writing
use Rattle.slices.proofs.copy.Given as goal

abbrev pub invariant-loop-i : goal.invariant-loop-i
invariant-loop-i l = writing.CopyLoop l.bytes l.initial.out l.to l.out l.count l.i
