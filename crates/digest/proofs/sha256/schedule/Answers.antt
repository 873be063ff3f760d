use Rattle.std.proofs.Common.{arith, length-set, rules, sym, take_all, ◌+◌, ◌∙◌, ◌≡◌}
use Rattle.digest.specs.Sha256.{extended, schedule}
use Rattle.slices.proofs.Laws.Tables.{length-tabulate}
use Rattle.digest.proofs.Laws.Sha256.Rounds.{extended-next}
use Rattle.digest.proofs.sha256.schedule.Goals as goal

pub loop-t-init : goal.loop-t-init
unfolding extended
loop-t-init c = (search rules, search rules, search rules, search rules, c.loaded-w.ensures)

pub loop-t-preserved : goal.loop-t-preserved
loop-t-preserved c =
    let loop = c.loop-t in
    let sixteen = length-tabulate _ 16 in
    let even = extended-next _ _ loop.t (loop.t + 1) _ (omega arith) sixteen (search rules) (search rules) loop.invariant.4 c.next_word.ensures in
    let odd = extended-next _ _ (loop.t + 1) (loop.t + 2) _ (omega arith) sixteen (search rules) (simp length-set (omega arith)) even c.next_word-in-loop-t.ensures in
    (search rules, search rules, search rules, search rules, odd)

pub returns : goal.returns
unfolding schedule
returns c =
    let e : c.loop-t.t ≡ 64 = omega arith in
    sym (take_all 64 _ (omega arith)) ∙ (rw e at c.loop-t.invariant.4)
