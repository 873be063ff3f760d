-- So far the state is what the parts before those that are left were fed into.
use Rattle.std.specs.Slice.Iter.{chunks_rest}
use Rattle.digest_vectors.proofs.Laws.Parts.SoFar.{SoFar}
use Rattle.digest_vectors.proofs.parts.in_parts.Given as goal

abbrev pub invariant-loop-part : goal.invariant-loop-part
invariant-loop-part l = SoFar l.message l.state (chunks_rest l.part-iterator)
