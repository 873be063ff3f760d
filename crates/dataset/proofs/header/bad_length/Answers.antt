-- `bad_length` meets its contract: at each `return` the test that led there says which case of `bad_length` holds. Assumes nothing.
use Rattle.dataset.proofs.Laws.Header.Checks as checks
use Rattle.dataset.specs.Header.{bad_length}
use Rattle.dataset.proofs.header.bad_length.Goals as goal

pub returns-then-len-eq-UNDEFINED : goal.returns-then-len-eq-UNDEFINED
unfolding bad_length
returns-then-len-eq-UNDEFINED c = search (checks.checks, checks.results)

pub returns : goal.returns
unfolding bad_length
returns c = search (checks.checks, checks.results)
