-- `or_next` meets its contract: by cases. Assumes nothing.
use Rattle.dataset.proofs.Laws.Header.Checks as checks
use Rattle.dataset.specs.Inner.Outcomes.{or_next}
use Rattle.dataset.proofs.lookup.or_next.Goals as goal

pub returns-then-before : goal.returns-then-before
unfolding or_next
returns-then-before c = search (checks.checks, checks.results)

pub returns-then-here-wanted : goal.returns-then-here-wanted
unfolding or_next
returns-then-here-wanted c = search (checks.checks, checks.results)

pub returns : goal.returns
unfolding or_next
returns c = search (checks.checks, checks.results)
