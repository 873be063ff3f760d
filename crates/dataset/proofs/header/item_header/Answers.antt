-- `item_header` meets its contract: what ends here by Ends; behind it, at each `return` the tests that led there say which case of `item_at`
-- holds. Assumes nothing.
use Rattle.std.proofs.Common.{rules, arith}
use Rattle.std.proofs.lemmas.Result.{err_from_is_err_and}
use Rattle.dataset.specs.Header.{ItemHeader, item_at}
use Rattle.dataset.proofs.Laws.Header.Checks as checks
use Rattle.dataset.proofs.Laws.Header.Ends as ends
use Rattle.dataset.proofs.header.item_header.Goals as goal

pub returns-in_err-next : goal.returns-in_err-next
unfolding item_at
returns-in_err-next c =
    let p = err_from_is_err_and c.from_residual.result c.from_residual.ensures.1 in
    rw (p.1, p.2) (ends.is-refused _ _ _ _ _ ItemHeader.refused ItemHeader.ends _ _ c.end_at.ensures _ c.in_err-next.was)

pub returns-in-Some : goal.returns-in-Some
unfolding item_at
returns-in-Some c = ends.ends-here _ _ _ _ _ ItemHeader.refused ItemHeader.ends _ _ c.end_at.ensures _ _ c.in_ok-next.was c.in-Some.is

pub tag_at-requires : goal.tag_at-requires
tag_at-requires c = let h = ends.header-lies _ _ _ _ _ _ _ c.end_at.ensures c.in_ok-next.was c.in_default.is in omega (arith, h.inside, h.small)

pub returns-then-tag_at : goal.returns-then-tag_at
unfolding item_at
returns-then-tag_at c =
    ends.goes-on _ _ _ _ _ ItemHeader.refused ItemHeader.ends _ _ c.end_at.ensures _ c.in_ok-next.was c.in_default.is _
    (search (checks.checks, checks.results, checks.refusals) depth 20 fits 20000)

pub overflow_add-at : goal.overflow_add-at
overflow_add-at c = let h = ends.header-lies _ _ _ _ _ _ _ c.end_at.ensures c.in_ok-next.was c.in_default.is in search (h.inside, h.small, rules)

pub number32-len-requires : goal.number32-len-requires
number32-len-requires c = let h = ends.header-lies _ _ _ _ _ _ _ c.end_at.ensures c.in_ok-next.was c.in_default.is in omega (arith, h.inside, h.small)

pub overflow_add-at-2 : goal.overflow_add-at-2
overflow_add-at-2 c = let h = ends.header-lies _ _ _ _ _ _ _ c.end_at.ensures c.in_ok-next.was c.in_default.is in search (h.inside, h.small, rules)

pub item_by-requires : goal.item_by-requires
item_by-requires c = (ends.header-lies _ _ _ _ _ _ _ c.end_at.ensures c.in_ok-next.was c.in_default.is).inside

pub returns : goal.returns
unfolding item_at
returns c =
    ends.goes-on _ _ _ _ _ ItemHeader.refused ItemHeader.ends _ _ c.end_at.ensures _ c.in_ok-next.was c.in_default.is _
    (search (checks.checks, checks.results, checks.handed, checks.refusals) depth 20 fits 20000)
