use Rattle.std.proofs.Common.{ap, Ok, Err, sym, ◌∙◌}
use Rattle.digest.specs.Inner.Steps.{feeding_step}
use Rattle.digest.proofs.Laws.Running.WaitingArray.{ready}
use Rattle.digest.proofs.running.Running.after.Goals as goal

pub fed-requires : goal.fed-requires
fed-requires c = ready _ _ (sym c.accepts.ensures ∙ c.if-accepts.true)

pub returns-then-accepts : goal.returns-then-accepts
unfolding feeding_step
returns-then-accepts c = let e = sym c.accepts.ensures ∙ c.if-accepts.true in rw e (ap (λ x. Ok x) c.fed.ensures)

pub returns-else-accepts : goal.returns-else-accepts
unfolding feeding_step
returns-else-accepts c = let e = sym c.accepts.ensures ∙ c.if-accepts.false in rw e (ap (λ x. Err x) c.at.ensures)
