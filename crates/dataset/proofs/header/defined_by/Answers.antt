-- `defined_by` meets its contract: at each `return` the tests that led there say which case of `defined_by` holds. Assumes nothing.
use Rattle.dataset.proofs.Laws.Header.Checks as checks
use Rattle.dataset.specs.Header.{defined_by}
use Rattle.dataset.proofs.header.defined_by.Goals as goal

pub returns-then-vr-eq-SQ : goal.returns-then-vr-eq-SQ
unfolding defined_by
returns-then-vr-eq-SQ c = search (checks.checks, checks.results)

pub returns : goal.returns
unfolding defined_by
returns c = search (checks.checks, checks.results)
