-- `end_at` meets its contract: at each `return` the tests that led there say which case holds. Assumes nothing.
use Rattle.std.proofs.Common.{rules}
use Rattle.dataset.proofs.Laws.Header.Checks as checks
use Rattle.dataset.specs.Inner.Header.{end_at}
use Rattle.dataset.proofs.header.end_at.Goals as goal

pub returns-then-is_outside : goal.returns-then-is_outside
unfolding end_at
returns-then-is_outside c = search (checks.checks, checks.results, checks.refusals) depth 20 fits 20000

pub returns-then-ends_at : goal.returns-then-ends_at
unfolding end_at
returns-then-ends_at c = search (checks.checks, checks.results, checks.refusals) depth 20 fits 20000

pub overflow_sub-x : goal.overflow_sub-x
overflow_sub-x c = search (checks.within, rules)

pub returns-then-x-at-lt8 : goal.returns-then-x-at-lt8
unfolding end_at
returns-then-x-at-lt8 c = search (checks.checks, checks.results, checks.refusals) depth 20 fits 20000

pub closed_by-requires : goal.closed_by-requires
closed_by-requires c = search (checks.within, rules)

pub returns-then-closed_by : goal.returns-then-closed_by
unfolding end_at
returns-then-closed_by c = search (checks.checks, checks.results, checks.refusals) depth 20 fits 20000

pub returns : goal.returns
unfolding end_at
returns c = search (checks.checks, checks.results, checks.refusals) depth 20 fits 20000
