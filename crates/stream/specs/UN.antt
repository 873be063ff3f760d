-- UN, the unknown VR, in a data set's elements: for 14, 15 and what the signature item leaves out.
-- Assumes nothing.
use Rattle.std.specs.Prelude.{Bool, false, ◌||◌, eqb}
use Rattle.dataset.specs.Vr.{UN}
use Rattle.dataset.specs.Tree.{Element, Elements, Items, vr_of}

-- 14: "a listed element is a UN" (RULES, 9.3); of the signature item's own: "UN elements" (8.4)
abbrev pub is_un : Element → Bool
is_un e = eqb (vr_of e) UN

-- 15: "a listed sequence has a UN in it" (9.3), "however deep, inside a barred element included" (4.5)
unfoldable mutual
  pub holds_un : Element → Bool
  holds_un (Element.value at tag vr span) = false
  holds_un (Element.sequence at tag span items) = items_hold_un items
  holds_un (Element.fragments at tag span parts) = false

  pub elements_hold_un : Elements → Bool
  elements_hold_un Elements.none = false
  elements_hold_un (Elements.and e rest) = is_un e || (holds_un e || elements_hold_un rest)

  pub items_hold_un : Items → Bool
  items_hold_un Items.last = false
  items_hold_un (Items.item at elements rest) = elements_hold_un elements || items_hold_un rest
