use Rattle.std.proofs.Common.{arith, leb-false, leb-true, sym, ◌∙◌}
use Rattle.digest.proofs.Laws.Running.WaitingArray.{accepts-within, accepts-past}
use Rattle.digest.proofs.running.Running.accepts.Goals as goal
use Rattle.digest.proofs.running.Running.accepts.Goals.{then-self-le-LIMIT, else-self-le-LIMIT}

pub returns-then-more-self : goal.returns-then-more-self
returns-then-more-self c =
    let t = c.if-more-self.true in
    elim c.if-self-le-LIMIT.branch [
      | then-self-le-LIMIT w ↦ accepts-within _ _ _ (omega (arith, leb-true _ _ (sym w.value-is ∙ t))) c.possible.ensures
      | else-self-le-LIMIT w ↦ absurd (omega (arith, leb-true _ _ (sym w.value-is ∙ t), w.if-self-le-LIMIT.false))
    ]

pub returns-else-more-self : goal.returns-else-more-self
returns-else-more-self c =
    let f = c.if-more-self.false in
    elim c.if-self-le-LIMIT.branch [
      | then-self-le-LIMIT w ↦ f ∙ accepts-past _ _ (omega (arith, leb-false _ _ (sym w.value-is ∙ f), w.if-self-le-LIMIT.true))
      | else-self-le-LIMIT w ↦ f ∙ accepts-past _ _ (omega (arith, w.if-self-le-LIMIT.false))
    ]
