-- `header` meets its contract: what ends here by Ends; behind it, at each `return` the tests that led there say which case of `element_at`
-- holds. Assumes nothing.
use Rattle.std.proofs.Common.{arith}
use Rattle.std.proofs.lemmas.Result.{err_from_is_err_and}
use Rattle.dataset.specs.Header.{ElementHeader, element_at}
use Rattle.dataset.proofs.Laws.Header.Checks as checks
use Rattle.dataset.proofs.Laws.Header.Ends as ends
use Rattle.dataset.proofs.header.header.Goals as goal

pub returns-in_err-next : goal.returns-in_err-next
unfolding element_at
returns-in_err-next c =
    let p = err_from_is_err_and c.from_residual.result c.from_residual.ensures.1 in
    rw (p.1, p.2) (ends.is-refused _ _ _ _ _ ElementHeader.refused ElementHeader.ends _ _ c.end_at.ensures _ c.in_err-next.was)

pub returns-in-Some : goal.returns-in-Some
unfolding element_at
returns-in-Some c = ends.ends-here _ _ _ _ _ ElementHeader.refused ElementHeader.ends _ _ c.end_at.ensures _ _ c.in_ok-next.was c.in-Some.is

pub number16-requires : goal.number16-requires
number16-requires c = let h = ends.header-lies _ _ _ _ _ _ _ c.end_at.ensures c.in_ok-next.was c.in_default.is in omega (arith, h.inside, h.small)

pub returns-then-number16-eq65534 : goal.returns-then-number16-eq65534
unfolding element_at
returns-then-number16-eq65534 c =
    ends.goes-on _ _ _ _ _ ElementHeader.refused ElementHeader.ends _ _ c.end_at.ensures _ c.in_ok-next.was c.in_default.is _
    (search (checks.checks, checks.results, checks.refusals) depth 20 fits 20000)

pub tag_at-tag-requires : goal.tag_at-tag-requires
tag_at-tag-requires c = let h = ends.header-lies _ _ _ _ _ _ _ c.end_at.ensures c.in_ok-next.was c.in_default.is in omega (arith, h.inside, h.small)

pub returns-then-tag-least : goal.returns-then-tag-least
unfolding element_at
returns-then-tag-least c =
    ends.goes-on _ _ _ _ _ ElementHeader.refused ElementHeader.ends _ _ c.end_at.ensures _ c.in_ok-next.was c.in_default.is _
    (search (checks.checks, checks.results, checks.refusals) depth 20 fits 20000)

pub vr_on-requires : goal.vr_on-requires
vr_on-requires c = let h = ends.header-lies _ _ _ _ _ _ _ c.end_at.ensures c.in_ok-next.was c.in_default.is in (h.inside, h.small)

pub returns : goal.returns
unfolding element_at
returns c =
    ends.goes-on _ _ _ _ _ ElementHeader.refused ElementHeader.ends _ _ c.end_at.ensures _ c.in_ok-next.was c.in_default.is _
    (search (checks.checks, checks.results, checks.handed, checks.refusals) depth 20 fits 20000)
