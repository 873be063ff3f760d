use Rattle.std.proofs.Common.{length, take, ◌%◌, ◌-◌, ◌≡◌, ◌≤◌}
use Rattle.slices.specs.Lists.{tabulate}
use Rattle.digest.specs.Sha256.{word_of, extended}
use Rattle.digest.proofs.sha256.schedule.Given as goal

abbrev pub invariant-loop-t : goal.invariant-loop-t
invariant-loop-t l = (16 ≤ l.t) × (l.t ≤ 64) × (l.t % 2 ≡ 0) × (length l.w ≡ 64) × (take l.t l.w ≡ extended (l.t - 16) (tabulate (word_of l.block) 16))
