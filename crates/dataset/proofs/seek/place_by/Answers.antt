-- `place_by` meets its contract: each place by its law in Places. Assumes nothing.
use Rattle.dataset.proofs.Laws.Seek.Places as places
use Rattle.dataset.proofs.seek.place_by.Goals as goal

pub returns-then-end-next : goal.returns-then-end-next
returns-then-end-next c = search places.fragments-place

pub returns-then-vr-ne-SQ : goal.returns-then-vr-ne-SQ
returns-then-vr-ne-SQ c = search places.value-place

pub returns-then-end-next-2 : goal.returns-then-end-next-2
returns-then-end-next-2 c = search places.delimited-place

pub returns : goal.returns
returns c = search places.defined-place
