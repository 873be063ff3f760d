use Rattle.std.proofs.Common.{◌%◌, ◌≡◌, ◌≤◌}
use Rattle.digest.specs.Sha256.{rounds}
use Rattle.digest.proofs.sha256.rounds.Given as goal

abbrev pub invariant-loop-t : goal.invariant-loop-t
invariant-loop-t l = (l.t ≤ 64) × (l.t % 4 ≡ 0) × (l.u ≡ rounds l.t l.w l.initial.u)
