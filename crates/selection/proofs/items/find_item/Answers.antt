use Rattle.std.proofs.Common.{arith}
use Rattle.answer.proofs.Laws.Steps.{value-is}
use Rattle.selection.proofs.Laws.Items.FindItemLoop as steps
use Rattle.selection.proofs.items.find_item.Goals as goal

pub returns-in_err-inside : goal.returns-in_err-inside
returns-in_err-inside c = rw c.from_residual.ensures (steps.find-item-refused _ _ _ _ c.open_item.ensures _ _ c.loop-inside.invariant _ c.ok.ensures.value c.in_err-inside.was)

pub returns : goal.returns
returns c =
    let q = steps.value-of _ _ _ c.ok.ensures.value c.in_ok-inside.was in
    steps.find-item-end _ _ _ _ c.open_item.ensures _ _ c.loop-inside.invariant _ q c.in_default.not-Item

pub returns-in_err-id : goal.returns-in_err-id
returns-in_err-id c =
    let q = value-is _ _ _ (steps.value-of _ _ _ c.ok.ensures.value c.in_ok-inside.was) c.in-Item.is in
    rw c.from_residual-in_err-id.ensures
    (steps.find-item-fault _ _ _ _ c.open_item.ensures _ _ c.loop-inside.invariant _ q _ c.seek.ensures _ c.ok-in-Item.ensures.value c.in_err-id.was)

pub returns-then-has_key : goal.returns-then-has_key
returns-then-has_key c =
    let q = value-is _ _ _ (steps.value-of _ _ _ c.ok.ensures.value c.in_ok-inside.was) c.in-Item.is in
    let m = steps.value-of _ _ _ c.ok-in-Item.ensures.value c.in_ok-id.was in
    steps.find-item-found _ _ _ _ c.open_item.ensures _ _ c.loop-inside.invariant _ q _ c.seek.ensures _ m _ c.has_key.ensures c.if-has_key.true

pub loop-inside-smaller : goal.loop-inside-smaller
loop-inside-smaller c =
    let q = value-is _ _ _ (steps.value-of _ _ _ c.ok.ensures.value c.in_ok-inside.was) c.in-Item.is in
    let m = steps.value-of _ _ _ c.ok-in-Item.ensures.value c.in_ok-id.was in
    steps.find-item-less _ _ _ _ c.open_item.ensures _ _ c.loop-inside.invariant _ q _ c.seek.ensures _ m

pub loop-inside-preserved : goal.loop-inside-preserved
loop-inside-preserved c =
    let q = value-is _ _ _ (steps.value-of _ _ _ c.ok.ensures.value c.in_ok-inside.was) c.in-Item.is in
    let m = steps.value-of _ _ _ c.ok-in-Item.ensures.value c.in_ok-id.was in
    steps.find-item-again _ _ _ _ c.open_item.ensures _ _ c.loop-inside.invariant _ q _ c.seek.ensures _ m _ c.has_key.ensures c.if-has_key.false

pub overflow_add-index : goal.overflow_add-index
overflow_add-index c =
    let q = value-is _ _ _ (steps.value-of _ _ _ c.ok.ensures.value c.in_ok-inside.was) c.in-Item.is in
    let m = steps.value-of _ _ _ c.ok-in-Item.ensures.value c.in_ok-id.was in
    let n = steps.find-item-count _ _ _ _ c.open_item.ensures _ _ c.loop-inside.invariant _ q _ c.seek.ensures _ m in
    omega (arith, n)
