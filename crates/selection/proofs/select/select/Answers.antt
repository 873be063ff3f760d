-- `select` meets its contract: each place by its law in SelectPlaces. Assumes nothing.
use Rattle.std.proofs.Common.{◌∙◌}
use Rattle.std.proofs.lemmas.Result.{err_from_is_err_and}
use Rattle.selection.proofs.Laws.PlaceValues as places
use Rattle.selection.proofs.Laws.Select.SelectPlaces as steps
use Rattle.selection.proofs.select.select.Goals as goal

pub returns-in_err-signature : goal.returns-in_err-signature
returns-in_err-signature c =
    let m = places.missing _ _ _ c.ok_or.ensures.value _ c.in_err-signature.was in
    let p = err_from_is_err_and c.from_residual-in_err-signature.result c.from_residual-in_err-signature.ensures.1 in
    rw (p.1, p.2) (steps.select-none _ _ _ _ _ _ c.seek.ensures _ c.in_ok-parameters.was _ c.signature_item.ensures _ m.0 (m.1 ∙ c.at.ensures))

pub returns-in_err-id : goal.returns-in_err-id
returns-in_err-id c =
    let s = places.needed _ _ _ c.ok_or.ensures.value _ c.in_ok-signature.was in
    let m = places.missing _ _ _ c.ok_or-2.ensures.value _ c.in_err-id.was in
    let p = err_from_is_err_and c.from_residual-in_err-id.result c.from_residual-in_err-id.ensures.1 in
    rw (p.1, p.2)
    (steps.select-no-id _ _ _ _ _ _ c.seek.ensures _ c.in_ok-parameters.was _ c.signature_item.ensures _ s _ c.mac_id.ensures _ m.0 (m.1 ∙ c.at-2.ensures))

pub returns-in_err-item : goal.returns-in_err-item
returns-in_err-item c =
    let s = places.needed _ _ _ c.ok_or.ensures.value _ c.in_ok-signature.was in
    let i = places.needed _ _ _ c.ok_or-2.ensures.value _ c.in_ok-id.was in
    let m = places.missing _ _ _ c.ok_or-3.ensures.value _ c.in_err-item.was in
    let p = err_from_is_err_and c.from_residual-in_err-item.result c.from_residual-in_err-item.ensures.1 in
    rw (p.1, p.2)
    (steps.select-no-parameters _ _ _ _ _ _ c.seek.ensures _ c.in_ok-parameters.was _ c.signature_item.ensures _ s _ c.mac_id.ensures _ i _
    c.find_item_under.ensures _ m.0 (m.1 ∙ c.at-3.ensures))

pub returns : goal.returns
returns c =
    let s = places.needed _ _ _ c.ok_or.ensures.value _ c.in_ok-signature.was in
    let i = places.needed _ _ _ c.ok_or-2.ensures.value _ c.in_ok-id.was in
    let k = places.needed _ _ _ c.ok_or-3.ensures.value _ c.in_ok-item.was in
    steps.select-rest _ _ _ _ _ _ c.seek.ensures _ c.in_ok-parameters.was _ c.signature_item.ensures _ s _ c.mac_id.ensures _ i _ c.find_item_under.ensures _ k _
    c.select_parameters.ensures
