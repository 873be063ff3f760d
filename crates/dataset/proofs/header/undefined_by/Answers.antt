-- `undefined_by` meets its contract: at each `return` the tests that led there say which case of `undefined_by` holds. Assumes nothing.
use Rattle.dataset.proofs.Laws.Header.Checks as checks
use Rattle.dataset.specs.Header.{undefined_by}
use Rattle.dataset.proofs.header.undefined_by.Goals as goal

pub returns-then-vr-eq-SQ : goal.returns-then-vr-eq-SQ
unfolding undefined_by
returns-then-vr-eq-SQ c = search (checks.checks, checks.results)

pub returns : goal.returns
unfolding undefined_by
returns c = search (checks.checks, checks.results)
