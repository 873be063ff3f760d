-- `item_by` meets its contract: at each `return` the tests that led there say which case of `item_by` holds. Assumes nothing.
use Rattle.dataset.proofs.Laws.Header.Checks as checks
use Rattle.dataset.specs.Header.{item_by}
use Rattle.dataset.proofs.header.item_by.Goals as goal

pub returns-then-in_sequence : goal.returns-then-in_sequence
unfolding item_by
returns-then-in_sequence c = search (checks.checks, checks.refusals) depth 16 fits 20000

pub returns-then-len-eq-UNDEFINED : goal.returns-then-len-eq-UNDEFINED
unfolding item_by
returns-then-len-eq-UNDEFINED c = search (checks.undefined-odd, checks.checks, checks.refusals) depth 16 fits 20000

pub returns-then-len-eq1 : goal.returns-then-len-eq1
unfolding item_by
returns-then-len-eq1 c = search (checks.checks, checks.refusals) depth 16 fits 20000

pub returns-then-x-start : goal.returns-then-x-start
unfolding item_by
returns-then-x-start c = search (checks.checks, checks.refusals) depth 16 fits 20000

pub returns : goal.returns
unfolding item_by
returns c = search (checks.checks, checks.refusals) depth 16 fits 20000
