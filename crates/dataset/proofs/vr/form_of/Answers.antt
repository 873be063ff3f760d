-- `form_of` meets its contract: by the two tables. Assumes nothing.
use Rattle.dataset.proofs.Laws.Header.Checks as checks
use Rattle.dataset.specs.Vr.{form_of}
use Rattle.dataset.proofs.vr.form_of.Goals as goal

pub returns-then-one_of : goal.returns-then-one_of
unfolding form_of
returns-then-one_of c = search (checks.checks, checks.results)

pub returns-then-one_of-2 : goal.returns-then-one_of-2
unfolding form_of
returns-then-one_of-2 c = search (checks.checks, checks.results)

pub returns : goal.returns
unfolding form_of
returns c = search (checks.checks, checks.results)
