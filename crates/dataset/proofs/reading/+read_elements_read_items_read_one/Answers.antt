use Rattle.std.proofs.Common.{rules, refl}
use Rattle.std.proofs.lemmas.Result.{err_from_is_err_and}
use Rattle.answer.proofs.Laws.Steps.{value-is}
use Rattle.dataset.proofs.Laws.Reading.Loops as steps
use Rattle.dataset.proofs.Laws.Reading.OneElement as one
use Rattle.dataset.proofs.reading.+read_elements_read_items_read_one.Goals as goal

pub read_elements-loop-next-init : goal.read_elements-loop-next-init
read_elements-loop-next-init t c = record { inside = search rules; same = refl }

pub read_elements-returns-in_err-next : goal.read_elements-returns-in_err-next
read_elements-returns-in_err-next t c =
    let p = err_from_is_err_and c.from_residual.result c.from_residual.ensures.1 in
    rw (p.1, p.2) (search (steps.elements-refused, c.in_err-next.was))

pub read_elements-returns-in-End : goal.read_elements-returns-in-End
read_elements-returns-in-End t c = let q = value-is _ _ _ c.in_ok-next.was c.in-End.is in search steps.elements-end

pub read_elements-loop-next-smaller : goal.read_elements-loop-next-smaller
read_elements-loop-next-smaller t c = let q = value-is _ _ _ c.in_ok-next.was c.in-Element.is in search steps.elements-less

pub read_elements-loop-next-preserved : goal.read_elements-loop-next-preserved
read_elements-loop-next-preserved t c = let q = value-is _ _ _ c.in_ok-next.was c.in-Element.is in search steps.elements-again

pub read_items-loop-next-init : goal.read_items-loop-next-init
read_items-loop-next-init t c = record { inside = search rules; same = refl }

pub read_items-returns-in_err-next : goal.read_items-returns-in_err-next
read_items-returns-in_err-next t c =
    let p = err_from_is_err_and c.from_residual.result c.from_residual.ensures.1 in
    rw (p.1, p.2) (search (steps.items_refused, c.in_err-next.was))

pub read_items-returns-in-End : goal.read_items-returns-in-End
read_items-returns-in-End t c = let q = value-is _ _ _ c.in_ok-next.was c.in-End.is in search steps.items-end

pub read_items-invariant_of-read_elements : goal.read_items-invariant_of-read_elements
read_items-invariant_of-read_elements t c =
    let q = value-is _ _ _ c.in_ok-next.was c.in-Item.is in
    search steps.item-lies

pub read_items-read_elements-requires : goal.read_items-read_elements-requires
read_items-read_elements-requires t c = let q = value-is _ _ _ c.in_ok-next.was c.in-Item.is in search (steps.elements-fall, rules)

pub read_items-returns-in_err-at-in-Item : goal.read_items-returns-in_err-at-in-Item
read_items-returns-in_err-at-in-Item t c =
    let q = value-is _ _ _ c.in_ok-next.was c.in-Item.is in
    let w = c.in_err-at-in-Item.was in
    let p = err_from_is_err_and c.from_residual-in_err-at-in-Item.result c.from_residual-in_err-at-in-Item.ensures.1 in
    rw (p.1, p.2) (search steps.item_refused)

pub read_items-loop-next-smaller : goal.read_items-loop-next-smaller
read_items-loop-next-smaller t c = let q = value-is _ _ _ c.in_ok-next.was c.in-Item.is in let w = c.in_ok-at-in-Item.was in search steps.item-less

pub read_items-loop-next-preserved : goal.read_items-loop-next-preserved
read_items-loop-next-preserved t c = let q = value-is _ _ _ c.in_ok-next.was c.in-Item.is in let w = c.in_ok-at-in-Item.was in search steps.item-again

pub read_one-returns-in_err-next : goal.read_one-returns-in_err-next
read_one-returns-in_err-next t c =
    let p = err_from_is_err_and c.from_residual.result c.from_residual.ensures.1 in
    rw (p.1, p.2) (search (one.one-refused, c.in_err-next.was))

pub read_one-invariant_of-read_items : goal.read_one-invariant_of-read_items
read_one-invariant_of-read_items t c = let q = value-is _ _ _ c.in_ok-next.was c.in-Sequence.is in search (one.sequence-order, one.sequence-inside)

pub read_one-read_items-requires : goal.read_one-read_items-requires
read_one-read_items-requires t c = let q = value-is _ _ _ c.in_ok-next.was c.in-Sequence.is in search (one.sequence-level, rules)

pub read_one-returns-in_err-next-in-Sequence : goal.read_one-returns-in_err-next-in-Sequence
read_one-returns-in_err-next-in-Sequence t c =
    let q = value-is _ _ _ c.in_ok-next.was c.in-Sequence.is in
    let w = c.in_err-next-in-Sequence.was in
    let p = err_from_is_err_and c.from_residual-in_err-next-in-Sequence.result c.from_residual-in_err-next-in-Sequence.ensures.1 in
    rw (p.1, p.2) (search one.sequence-refused)

pub read_one-holding-requires : goal.read_one-holding-requires
read_one-holding-requires t c = let q = value-is _ _ _ c.in_ok-next.was c.in-Sequence.is in let w = c.in_ok-next-in-Sequence.was in search one.sequence-past

pub read_one-invariant_of-read_fragments : goal.read_one-invariant_of-read_fragments
read_one-invariant_of-read_fragments t c = let q = value-is _ _ _ c.in_ok-next.was c.in-Fragments.is in search (one.parts-order, one.parts-inside)

pub read_one-returns-in_err-next-in-Fragments : goal.read_one-returns-in_err-next-in-Fragments
read_one-returns-in_err-next-in-Fragments t c =
    let q = value-is _ _ _ c.in_ok-next.was c.in-Fragments.is in
    let w = c.in_err-next-in-Fragments.was in
    let p = err_from_is_err_and c.from_residual-in_err-next-in-Fragments.result c.from_residual-in_err-next-in-Fragments.ensures.1 in
    rw (p.1, p.2) (search one.parts-refused)

pub read_one-holding-requires-in-Fragments : goal.read_one-holding-requires-in-Fragments
read_one-holding-requires-in-Fragments t c = let q = value-is _ _ _ c.in_ok-next.was c.in-Fragments.is in let w = c.in_ok-next-in-Fragments.was in search one.parts-past

pub read_one-returns-in-End : goal.read_one-returns-in-End
read_one-returns-in-End t c = let q = value-is _ _ _ c.in_ok-next.was c.in-End.is in search one.one_end

pub read_one-returns-in-Value : goal.read_one-returns-in-Value
read_one-returns-in-Value t c = let q = value-is _ _ _ c.in_ok-next.was c.in-Value.is in search one.one_value

pub read_one-returns-in_ok-next-in-Sequence : goal.read_one-returns-in_ok-next-in-Sequence
read_one-returns-in_ok-next-in-Sequence t c = let q = value-is _ _ _ c.in_ok-next.was c.in-Sequence.is in let w = c.in_ok-next-in-Sequence.was in search one.sequence-one

pub read_one-returns-in_ok-next-in-Fragments : goal.read_one-returns-in_ok-next-in-Fragments
read_one-returns-in_ok-next-in-Fragments t c = let q = value-is _ _ _ c.in_ok-next.was c.in-Fragments.is in let w = c.in_ok-next-in-Fragments.was in search one.parts-one
