use Rattle.std.proofs.Common.{length, take, ◌≡◌, ◌≤◌}
use Rattle.slices.specs.Lists.{tabulate}
use Rattle.digest.specs.Sha256.{word_of}
use Rattle.digest.proofs.sha256.loaded.Given as goal

abbrev pub invariant-loop-i : goal.invariant-loop-i
invariant-loop-i l = (l.i ≤ 16) × (length l.w ≡ 64) × (take l.i l.w ≡ tabulate (word_of l.block) l.i)
