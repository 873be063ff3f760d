use Rattle.std.proofs.Common.{eq-eqb, ne_eqb}
use Rattle.digest.specs.Running.{possible}
use Rattle.digest.proofs.Laws.Running.Zeros.{zeros-from}
use Rattle.digest.proofs.running.Running.possible.Goals as goal

pub returns-then-self : goal.returns-then-self
unfolding possible
returns-then-self c = simp (eq-eqb _ _ c.if-self.true) (search zeros-from)

pub returns-else-self : goal.returns-else-self
unfolding possible
returns-else-self c = simp (ne_eqb _ _ c.if-self.false)
