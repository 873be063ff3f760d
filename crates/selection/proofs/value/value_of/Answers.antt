-- `value_of` meets its contract: each place by its law in PlaceValues. Assumes nothing.
use Rattle.selection.proofs.Laws.PlaceValues as places
use Rattle.selection.proofs.value.value_of.Goals as goal
use Rattle.selection.proofs.value.value_of.Goals.{in_default-via-in-Value+else-vr-wanted, in_default-via-in_default}

pub returns-in-Value : goal.returns-in-Value
returns-in-Value c = places.value-at _ _ _ c.in-Value.vr c.in-Value.start c.in-Value.end c.in-Value.is c.if-vr-wanted.true _ c.get.ensures.lookup

pub returns-in_default : goal.returns-in_default
returns-in_default c = elim c.in_default.branch [
  | in_default-via-in-Value+else-vr-wanted w ↦ search places.other-at
  | in_default-via-in_default w ↦ search places.no-value-at
]
