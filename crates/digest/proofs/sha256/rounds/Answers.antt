use Rattle.std.proofs.Common.{arith, refl, rules, ◌+◌, ◌≡◌}
use Rattle.digest.specs.Sha256.{rounds}
use Rattle.digest.proofs.Laws.Sha256.Rounds.{rounds-next}
use Rattle.digest.proofs.sha256.rounds.Goals as goal

pub loop-t-init : goal.loop-t-init
unfolding rounds
loop-t-init c = (search rules, search rules, refl)

pub loop-t-preserved : goal.loop-t-preserved
loop-t-preserved c =
    let loop = c.loop-t in
    let k = c.requires in
    let first = rounds-next _ _ _ _ _ loop.t (loop.t + 1) k (omega arith) loop.invariant.2 c.round-first.ensures in
    let second = rounds-next _ _ _ _ _ (loop.t + 1) (loop.t + 2) k (omega arith) first c.round-second.ensures in
    let third = rounds-next _ _ _ _ _ (loop.t + 2) (loop.t + 3) k (omega arith) second c.round-third.ensures in
    (search rules, search rules, rounds-next _ _ _ _ _ (loop.t + 3) (loop.t + 4) k (omega arith) third c.round-u.ensures)

pub returns : goal.returns
returns c =
    let e : c.loop-t.t ≡ 64 = omega arith in
    rw e at c.loop-t.invariant.2
