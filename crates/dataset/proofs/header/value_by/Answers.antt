-- `value_by` meets its contract: at each `return` the tests that led there say which case of `value_by` holds. Assumes nothing.
use Rattle.dataset.proofs.Laws.Header.Checks as checks
use Rattle.dataset.specs.Header.{value_by}
use Rattle.dataset.proofs.header.value_by.Goals as goal

pub returns-then-bad_length : goal.returns-then-bad_length
unfolding value_by
returns-then-bad_length c = search (checks.checks, checks.results, checks.refusals) fits 20000

pub returns-then-too_deep : goal.returns-then-too_deep
unfolding value_by
returns-then-too_deep c = search (checks.checks, checks.results, checks.refusals) fits 20000

pub returns-then-len-eq-UNDEFINED : goal.returns-then-len-eq-UNDEFINED
unfolding value_by
returns-then-len-eq-UNDEFINED c = search (checks.checks, checks.results, checks.refusals) fits 20000

pub returns-then-x-start : goal.returns-then-x-start
unfolding value_by
returns-then-x-start c = search (checks.checks, checks.results, checks.refusals) fits 20000

pub returns : goal.returns
unfolding value_by
returns c = search (checks.checks, checks.results, checks.refusals) fits 20000
