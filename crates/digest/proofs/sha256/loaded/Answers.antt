use Rattle.std.proofs.Common.{arith, refl, rules, ◌≡◌}
use Rattle.slices.specs.Lists.{tabulate}
use Rattle.slices.proofs.Laws.Tables.{tabulate-next}
use Rattle.digest.proofs.sha256.loaded.Goals as goal

pub loop-i-init : goal.loop-i-init
unfolding tabulate
loop-i-init c = (search rules, search rules, refl)

pub loop-i-preserved : goal.loop-i-preserved
loop-i-preserved c = (search rules, search rules, tabulate-next _ _ _ _ (search rules) c.loop-i.invariant.2 c.word.ensures)

pub returns : goal.returns
returns c =
    let e : c.loop-i.i ≡ 16 = omega arith in
    rw e at c.loop-i.invariant.2
