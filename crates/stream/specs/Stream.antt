-- The stream: docs/RULES.md, 5.
-- Assumes nothing.
use Rattle.std.specs.Prelude.{ℕ, ◌+◌, List, [], ◌∷◌, ◌++◌}
use Rattle.std.proofs.Math.Option.{Option, some}
use Rattle.std.proofs.Math.Option as Opt
use Rattle.slices.specs.Lists.{between}
use Rattle.dataset.specs.Tree.{Span, Element, Elements, Items, tag_of}
use Rattle.dataset.specs.Lookup.{element_of}
use Rattle.stream.specs.TagList.{barred, unless_barred}

-- 5.2: "the four bytes of the item's tag": (FFFE,E000)
abbrev pub item_tag_bytes : List ℕ
item_tag_bytes = 0xFE ∷ 0xFF ∷ 0x00 ∷ 0xE0 ∷ []

-- 5.2: "and finally FE FF DD E0, whether the data set has a delimiter there or not": (FFFE,E0DD)
abbrev pub sequence_delimiter_bytes : List ℕ
sequence_delimiter_bytes = 0xFE ∷ 0xFF ∷ 0xDD ∷ 0xE0 ∷ []

-- 5.3: "An OB of undefined length gives the same, with fragments for items and the unchanged bytes of each for what elements give."
unfoldable pub fragments_stream : List Span → List ℕ → List ℕ
fragments_stream [] d = sequence_delimiter_bytes
fragments_stream (s ∷ rest) d = item_tag_bytes ++ (between d s.start s.end ++ fragments_stream rest d)

-- The stream of an element of the data set d.
-- 5.1: "An element that is neither an SQ nor an OB of undefined length gives all its bytes, also those of its length."
-- 5.2: "An SQ gives its tag, its VR and its reserved bytes; then, item by item, the four bytes of the item's tag and what the item's
-- elements give by these same rules; and finally FE FF DD E0, .. The lengths of the SQ and of its items are not given." (Tag, VR and
-- reserved bytes are 8 bytes.)
-- 5.4: "A barred element in a sequence gives nothing, however deep it stands."
unfoldable mutual
  pub stream_of : Element → List ℕ → List ℕ
  stream_of (Element.value at tag vr span) d = between d at span.end
  stream_of (Element.sequence at tag span items) d = between d at (at + 8) ++ items_stream items d
  stream_of (Element.fragments at tag span parts) d = between d at (at + 8) ++ fragments_stream parts d

  pub elements_stream : Elements → List ℕ → List ℕ
  elements_stream Elements.none d = []
  elements_stream (Elements.and e rest) d = unless_barred (barred (tag_of e)) (λ more. stream_of e d ++ more) (elements_stream rest d)

  pub items_stream : Items → List ℕ → List ℕ
  items_stream Items.last d = sequence_delimiter_bytes
  items_stream (Items.item at elements rest) d = item_tag_bytes ++ (elements_stream elements d ++ items_stream rest d)

-- of an absent tag there is none: 13 comes before
abbrev pub found_stream : Option Element → List ℕ → List ℕ
found_stream Opt.none d = []
found_stream (some e) d = stream_of e d

-- 5.5: "The listed elements come in the order of the list."
unfoldable pub listed_stream : (tags : List ℕ) → Elements → List ℕ → List ℕ
listed_stream [] es d = []
listed_stream (tag ∷ tags) es d = found_stream (element_of tag es) d ++ listed_stream tags es d
