-- Signed content, a term of docs/RULES.md, 6.1: "tag, VR and value of each listed element", with no offsets and no lengths. 6.4: "Nothing
-- in this definition uses the stream."
-- Assumes nothing.
use Rattle.std.specs.Prelude.{ℕ, Bool, true, false, ◌||◌, List, [], ◌∷◌}
use Rattle.std.proofs.Math.Option.{Option, some}
use Rattle.std.proofs.Math.Option as Opt
use Rattle.slices.specs.Lists.{between}
use Rattle.dataset.specs.Tree.{Span, Element, Elements, Items, tag_of}
use Rattle.dataset.specs.Lookup.{element_of}
use Rattle.stream.specs.TagList.{barred, unless_barred}

mutual
  -- an element's tag, VR and value; a sequence's VR is SQ, that of fragments OB. 6.3: "A row of fragments never equals a value of bytes,
  -- not even where both are empty."
  pub data SignedElement : Type 0 where
    value : (tag vr : ℕ) (bytes : List ℕ) → SignedElement
    sequence : (tag : ℕ) (items : SignedItems) → SignedElement
    fragments : (tag : ℕ) (row : List (List ℕ)) → SignedElement

  -- a row of elements
  pub data SignedElements : Type 0 where
    none : SignedElements
    and : (first : SignedElement) (rest : SignedElements) → SignedElements

  -- 6.2: "the row of its items, an item being the row of tag, VR and value of each of its elements"; `last`: no item more
  pub data SignedItems : Type 0 where
    last : SignedItems
    item : (elements : SignedElements) (rest : SignedItems) → SignedItems

-- 6.2: "the row of its fragments"
unfoldable pub fragment_bytes : List Span → List ℕ → List (List ℕ)
fragment_bytes [] d = []
fragment_bytes (s ∷ rest) d = between d s.start s.end ∷ fragment_bytes rest d

-- The content of an element of the data set d. 6.2, its value: "of an SQ, the row of its items, an item being the row of tag, VR and value
-- of each of its elements that is not barred; of an OB of undefined length, the row of its fragments; of any other element, the bytes of
-- its value."
unfoldable mutual
  pub signed : Element → List ℕ → SignedElement
  signed (Element.value at tag vr span) d = SignedElement.value tag vr (between d span.start span.end)
  signed (Element.sequence at tag span items) d = SignedElement.sequence tag (signed_items items d)
  signed (Element.fragments at tag span parts) d = SignedElement.fragments tag (fragment_bytes parts d)

  pub signed_elements : Elements → List ℕ → SignedElements
  signed_elements Elements.none d = SignedElements.none
  signed_elements (Elements.and e rest) d = unless_barred (barred (tag_of e)) (SignedElements.and (signed e d)) (signed_elements rest d)

  pub signed_items : Items → List ℕ → SignedItems
  signed_items Items.last d = SignedItems.last
  signed_items (Items.item at elements rest) d = SignedItems.item (signed_elements elements d) (signed_items rest d)

-- one element before the rest; none where either is missing
abbrev pub joined : Option Element → Option SignedElements → List ℕ → Option SignedElements
joined Opt.none rest d = Opt.none
joined (some e) Opt.none d = Opt.none
joined (some e) (some rest) d = some (SignedElements.and (signed e d) rest)

-- 6.1: "Where a data set is well-formed and has all tags of a list at its top level, the list has a signed content in it: tag, VR and value
-- of each listed element, in the list's order."; none where a tag is absent
unfoldable pub content : (tags : List ℕ) → Elements → List ℕ → Option SignedElements
content [] es d = some SignedElements.none
content (tag ∷ tags) es d = joined (element_of tag es) (content tags es d) d

-- In fragments, a term of RULES 6.5: "A signed content with an OB of undefined length anywhere in it, if only one with no fragments, has
-- something signed in fragments."
unfoldable mutual
  pub in_fragments : SignedElement → Bool
  in_fragments (SignedElement.value tag vr bytes) = false
  in_fragments (SignedElement.sequence tag items) = items_in_fragments items
  in_fragments (SignedElement.fragments tag row) = true

  pub some_in_fragments : SignedElements → Bool
  some_in_fragments SignedElements.none = false
  some_in_fragments (SignedElements.and e rest) = in_fragments e || some_in_fragments rest

  pub items_in_fragments : SignedItems → Bool
  items_in_fragments SignedItems.last = false
  items_in_fragments (SignedItems.item elements rest) = some_in_fragments elements || items_in_fragments rest
