-- `long_form` meets its contract: at each `return` the tests that led there say which case of `long_at` holds. Assumes nothing.
use Rattle.dataset.proofs.Laws.Header.Checks as checks
use Rattle.dataset.specs.Header.{long_at}
use Rattle.dataset.proofs.header.long_form.Goals as goal

pub returns-then-x-at-lt12 : goal.returns-then-x-at-lt12
unfolding long_at
returns-then-x-at-lt12 c = search (checks.checks, checks.results, checks.handed, checks.refusals) depth 16 fits 20000

pub returns-then-number16-ne0 : goal.returns-then-number16-ne0
unfolding long_at
returns-then-number16-ne0 c = search (checks.checks, checks.results, checks.handed, checks.refusals) depth 16 fits 20000

pub returns : goal.returns
unfolding long_at
returns c = search (checks.checks, checks.results, checks.handed, checks.refusals) depth 16 fits 20000
