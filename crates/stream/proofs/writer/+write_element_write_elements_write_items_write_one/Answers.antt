use Rattle.std.proofs.Common.{rules}
use Rattle.std.proofs.lemmas.Result.{err_from_is_err_and}
use Rattle.stream.proofs.Laws.Writer.WriteElement as element
use Rattle.stream.proofs.Laws.Writer.ElementsLoop as loop
use Rattle.stream.proofs.Laws.Writer.BarredLoop as elements
use Rattle.stream.proofs.Laws.Writer.ItemsLoop as items
use Rattle.stream.proofs.writer.+write_element_write_elements_write_items_write_one.Goals as goal

pub write_element-copy-requires : goal.write_element-copy-requires
write_element-copy-requires t c = (search element.value-order, search element.value-inside)

pub write_element-overflow_sub-end : goal.write_element-overflow_sub-end
write_element-overflow_sub-end t c = search element.value-order

pub write_element-overflow_add-to : goal.write_element-overflow_add-to
write_element-overflow_add-to t c = search element.value-fits

pub write_element-overflow_add-at : goal.write_element-overflow_add-at
write_element-overflow_add-at t c = search (element.header-within, element.sequence-header)

pub write_element-copy-requires-in-Sequence : goal.write_element-copy-requires-in-Sequence
write_element-copy-requires-in-Sequence t c = (search rules, search element.sequence-header)

pub write_element-overflow_add-to-in-Sequence : goal.write_element-overflow_add-to-in-Sequence
write_element-overflow_add-to-in-Sequence t c = search (element.header-fits, element.sequence-header)

pub write_element-invariant_of-write_items : goal.write_element-invariant_of-write_items
write_element-invariant_of-write_items t c = search element.sequence-lies

pub write_element-write_items-requires : goal.write_element-write_items-requires
write_element-write_items-requires t c = search (element.sequence-level, element.sequence-room, rules)

pub write_element-overflow_add-at-in-Fragments : goal.write_element-overflow_add-at-in-Fragments
write_element-overflow_add-at-in-Fragments t c = search (element.header-within, element.parts-header)

pub write_element-copy-requires-in-Fragments : goal.write_element-copy-requires-in-Fragments
write_element-copy-requires-in-Fragments t c = (search rules, search element.parts-header)

pub write_element-overflow_add-to-in-Fragments : goal.write_element-overflow_add-to-in-Fragments
write_element-overflow_add-to-in-Fragments t c = search (element.header-fits, element.parts-header)

pub write_element-invariant_of-write_fragments : goal.write_element-invariant_of-write_fragments
write_element-invariant_of-write_fragments t c = search element.parts-lies

pub write_element-write_fragments-requires : goal.write_element-write_fragments-requires
write_element-write_fragments-requires t c = search (element.parts-room, rules)

pub write_element-returns-in-End : goal.write_element-returns-in-End
write_element-returns-in-End t c = search element.element-end

pub write_element-returns-in-Value : goal.write_element-returns-in-Value
write_element-returns-in-Value t c = search element.element-value

pub write_element-returns-in_err-items-in-Sequence : goal.write_element-returns-in_err-items-in-Sequence
write_element-returns-in_err-items-in-Sequence t c =
    let p = err_from_is_err_and c.from_residual.result c.from_residual.ensures.1 in
    let e = c.in_err-items-in-Sequence.ensures in
    rw (p.1, p.2) (search element.sequence-refused)

pub write_element-returns-in_ok-items-in-Sequence : goal.write_element-returns-in_ok-items-in-Sequence
write_element-returns-in_ok-items-in-Sequence t c = let e = c.in_ok-items-in-Sequence.ensures in search element.element-sequence

pub write_element-returns-in_err-fragments-in-Fragments : goal.write_element-returns-in_err-fragments-in-Fragments
write_element-returns-in_err-fragments-in-Fragments t c =
    let p = err_from_is_err_and c.from_residual-in_err-fragments-in-Fragments.result c.from_residual-in_err-fragments-in-Fragments.ensures.1 in
    let e = c.in_err-fragments-in-Fragments.ensures in
    rw (p.1, p.2) (search element.parts-refused)

pub write_element-returns-in_ok-fragments-in-Fragments : goal.write_element-returns-in_ok-fragments-in-Fragments
write_element-returns-in_ok-fragments-in-Fragments t c = let e = c.in_ok-fragments-in-Fragments.ensures in search element.element-fragments

pub write_elements-loop-next-init : goal.write_elements-loop-next-init
write_elements-loop-next-init t c = search loop.loop-start

pub write_elements-returns-in_err-next : goal.write_elements-returns-in_err-next
write_elements-returns-in_err-next t c =
    let p = err_from_is_err_and c.from_residual.result c.from_residual.ensures.1 in
    let e = c.in_err-next.ensures in
    rw (p.1, p.2) (search loop.loop-refused)

pub write_elements-returns-in-End : goal.write_elements-returns-in-End
write_elements-returns-in-End t c = let e = c.in_ok-next.ensures in search elements.elements-end

pub write_elements-loop-next-smaller : goal.write_elements-loop-next-smaller
write_elements-loop-next-smaller t c = let e = c.in_ok-next.ensures in search loop.loop-less

pub write_elements-loop-next-preserved : goal.write_elements-loop-next-preserved
write_elements-loop-next-preserved t c = let e = c.in_ok-next.ensures in search elements.elements-again

pub write_items-loop-next-init : goal.write_items-loop-next-init
write_items-loop-next-init t c = search items.items-start

pub write_items-returns-in_err-next : goal.write_items-returns-in_err-next
write_items-returns-in_err-next t c =
    let p = err_from_is_err_and c.from_residual.result c.from_residual.ensures.1 in
    let e = c.in_err-next.ensures in
    rw (p.1, p.2) (search items.loop-refused)

pub write_items-returns-in-End : goal.write_items-returns-in-End
write_items-returns-in-End t c = let e = c.in_ok-next.ensures in search items.loop-end

pub write_items-invariant_of-write_elements : goal.write_items-invariant_of-write_elements
write_items-invariant_of-write_elements t c = let e = c.in_ok-next.ensures in search items.inside-lies

pub write_items-write_elements-requires : goal.write_items-write_elements-requires
write_items-write_elements-requires t c = let e = c.in_ok-next.ensures in search (items.inside_falls, items.inside_room, rules)

pub write_items-returns-in_err-item-in-Item : goal.write_items-returns-in_err-item-in-Item
write_items-returns-in_err-item-in-Item t c =
    let p = err_from_is_err_and c.from_residual-in_err-item-in-Item.result c.from_residual-in_err-item-in-Item.ensures.1 in
    let e = c.in_ok-next.ensures in
    let w = c.in_err-item-in-Item.ensures in
    rw (p.1, p.2) (search items.inside-refused)

pub write_items-loop-next-smaller : goal.write_items-loop-next-smaller
write_items-loop-next-smaller t c = let e = c.in_ok-next.ensures in let w = c.in_ok-item-in-Item.ensures in search items.item-less

pub write_items-loop-next-preserved : goal.write_items-loop-next-preserved
write_items-loop-next-preserved t c = let e = c.in_ok-next.ensures in let w = c.in_ok-item-in-Item.ensures in search items.item-again

pub write_one-returns-in_err-h : goal.write_one-returns-in_err-h
write_one-returns-in_err-h t c =
    let p = err_from_is_err_and c.from_residual.result c.from_residual.ensures.1 in
    let e = c.in_err-h.ensures in
    rw (p.1, p.2) (search element.one-refused)

pub write_one-returns-then-keeps_header : goal.write_one-returns-then-keeps_header
write_one-returns-then-keeps_header t c = let g = c.in_ok-h.ensures in search element.one_kept

pub write_one-returns-in_err-one : goal.write_one-returns-in_err-one
write_one-returns-in_err-one t c =
    let p = err_from_is_err_and c.from_residual-in_err-one.result c.from_residual-in_err-one.ensures.1 in
    let g = c.in_ok-h.ensures in
    let e = c.in_err-one.ensures in
    rw (p.1, p.2) (search element.left-refused)

pub write_one-returns-in_default : goal.write_one-returns-in_default
write_one-returns-in_default t c = let g = c.in_ok-h.ensures in let e = c.in_ok-one.ensures in search element.one_left

pub write_one-returns : goal.write_one-returns
write_one-returns t c = let g = c.in_ok-h.ensures in search element.one-passed
