-- The stream is the encoding of the signed content: it is defined here by the content alone. Assumes nothing.
use Prim.Native.Nat.{ℕ, ◌+◌, ◌-◌, ◌≤◌}
use mathlib.Core.Path.{◌≡◌, refl, sym, ap, ap₂, ◌∙◌}
use mathlib.Core.Bool.{Bool, true, false}
use mathlib.Core.List.{List, [], ◌∷◌, ◌++◌}
use native.Mathlib.Omega.{arith}
use lib.ListN.{length}
use Rattle.dataset.specs.Bytes.{num16, num32, tag_at, vr_at}
use Rattle.slices.specs.Lists.{between, OfBytes}
use Rattle.dataset.specs.Vr.{SQ, OB, short_form, long_form, one_of, form_of}
use Rattle.dataset.specs.Reading.{deeper}
use Rattle.dataset.specs.Tree.{Span, Element, Elements, Items, tag_of}
use Rattle.dataset.specs.Order.{Sized}
use Rattle.dataset.proofs.Laws.Reading.Lies.{ElementLies, ElementsLie, ItemsLie}
use Rattle.stream.specs.TagList.{barred, unless_barred}
use Rattle.stream.specs.Content.{SignedElement, SignedElements, SignedItems, fragment_bytes, signed, signed_elements, signed_items}
use Rattle.stream.specs.Stream.{item_tag_bytes, sequence_delimiter_bytes, fragments_stream, stream_of, elements_stream, items_stream}
use Rattle.slices.proofs.Laws.Parts.{length-between}
use Rattle.mac_theorems.proofs.Laws.Demand3.ByteSlices.{bytes16, bytes32, tag_bytes, vr_bytes, between_none, header-front, long-front}

-- a VR of the short form; every other is of the long form
abbrev pub is_short : (vr : ℕ) → Bool
is_short vr = one_of vr short_form

-- the bytes after the VR, up to the value
abbrev pub length_bytes : (short : Bool) → ℕ → List ℕ
length_bytes true n = bytes16 n
length_bytes false n = 0 ∷ 0 ∷ bytes32 n

unfoldable pub encode_fragments : List (List ℕ) → List ℕ
encode_fragments [] = sequence_delimiter_bytes
encode_fragments (bytes ∷ rest) = item_tag_bytes ++ (bytes ++ encode_fragments rest)

unfoldable mutual
  pub encode : SignedElement → List ℕ
  encode (SignedElement.value tag vr bytes) = tag_bytes tag ++ (vr_bytes vr ++ (length_bytes (is_short vr) (length bytes) ++ bytes))
  encode (SignedElement.sequence tag items) = tag_bytes tag ++ (vr_bytes SQ ++ (0 ∷ 0 ∷ encode_items items))
  encode (SignedElement.fragments tag rows) = tag_bytes tag ++ (vr_bytes OB ++ (0 ∷ 0 ∷ encode_fragments rows))

  pub encode_elements : SignedElements → List ℕ
  encode_elements SignedElements.none = []
  encode_elements (SignedElements.and e rest) = encode e ++ encode_elements rest

  pub encode_items : SignedItems → List ℕ
  encode_items SignedItems.last = sequence_delimiter_bytes
  encode_items (SignedItems.item elements rest) = item_tag_bytes ++ (encode_elements elements ++ encode_items rest)

-- ---- headers

-- where a value starts, and its length in the header
abbrev pub SizedAs : (short : Bool) → List ℕ → (at start n : ℕ) → Type 0
SizedAs true d at start n = (start ≡ at + 8) × (num16 d (at + 6) ≡ n)
SizedAs false d at start n = (start ≡ at + 12) × (num16 d (at + 6) ≡ 0) × (num32 d (at + 8) ≡ n)

pub sized-as : (vr : ℕ) (d : List ℕ) (at start n : ℕ) → Sized (form_of vr) d at start n → SizedAs (is_short vr) d at start n
unfolding form_of
sized-as vr d at start n s = go (is_short vr) refl
  where
    long : (b : Bool) → one_of vr long_form ≡ b → is_short vr ≡ false → SizedAs false d at start n
    long true e f = rw (f, e) at s
    long false e f = absurd (rw (f, e) at s)

    go : (b : Bool) → is_short vr ≡ b → SizedAs b d at start n
    go true e = rw e at s
    go false e = long (one_of vr long_form) refl e

module _ (d : List ℕ) (b : OfBytes d) where
  value-encoded : (short : Bool) (at start end : ℕ) → start ≤ end → end ≤ length d → SizedAs short d at start (end - start)
      → between d at end ≡ tag_bytes (tag_at d at) ++ (vr_bytes (vr_at d at) ++ (length_bytes short (end - start) ++ between d start end))
  value-encoded true at start end h k s =
      let q = s.0 in
      header-front d b at end (omega arith) k
      ∙ ap₂ (λ (n p : ℕ). tag_bytes (tag_at d at) ++ (vr_bytes (vr_at d at) ++ (bytes16 n ++ between d p end))) s.1 (sym s.0)
  value-encoded false at start end h k s =
      let q = s.0 in
      long-front d b at end (omega arith) k
      ∙ ap₂ (λ (n p : ℕ). tag_bytes (tag_at d at) ++ (vr_bytes (vr_at d at) ++ (bytes16 n ++ (bytes32 (num32 d (at + 8)) ++ between d p end)))) s.1 (sym s.0)
      ∙ ap (λ (n : ℕ). tag_bytes (tag_at d at) ++ (vr_bytes (vr_at d at) ++ (0 ∷ 0 ∷ (bytes32 n ++ between d start end)))) s.2

  nest-encoded : (at vr : ℕ) → at + 8 ≤ length d → vr_at d at ≡ vr → num16 d (at + 6) ≡ 0
      → between d at (at + 8) ≡ tag_bytes (tag_at d at) ++ (vr_bytes vr ++ (0 ∷ 0 ∷ []))
  nest-encoded at vr h e z =
      header-front d b at (at + 8) (omega arith) h
      ∙ ap₂ (λ (v n : ℕ). tag_bytes (tag_at d at) ++ (vr_bytes v ++ (bytes16 n ++ between d (at + 8) (at + 8)))) e z
      ∙ ap (λ (x : List ℕ). tag_bytes (tag_at d at) ++ (vr_bytes vr ++ (0 ∷ 0 ∷ x))) (between_none d (at + 8))

-- ---- the law
fragments-encoded : (ss : List Span) (d : List ℕ) → fragments_stream ss d ≡ encode_fragments (fragment_bytes ss d)
unfolding fragments_stream fragment_bytes encode_fragments
fragments-encoded [] d = refl
fragments-encoded (s ∷ ss) d = ap (λ (x : List ℕ). item_tag_bytes ++ (between d s.start s.end ++ x)) (fragments-encoded ss d)

unless-barred-encoded : (b : Bool) (e : SignedElement) (rest : SignedElements)
    → unless_barred b (λ more. encode e ++ more) (encode_elements rest) ≡ encode_elements (unless_barred b (SignedElements.and e) rest)
unfolding encode_elements
unless-barred-encoded true e rest = refl
unless-barred-encoded false e rest = refl

mutual
  unfolding ElementLies stream_of signed encode

  pub element-encoded : (e : Element) (d : List ℕ) → OfBytes d → (left at next : ℕ) → ElementLies e d left at next → stream_of e d ≡ encode (signed e d)
  element-encoded (Element.value p tag vr span) d b left at next r =
      let v = r.1 in
      let n : length (between d span.start span.end) ≡ span.end - span.start = length-between d span.start span.end v.order v.inside in
      ap (λ (x : ℕ). between d x span.end) r.0
      ∙ value-encoded d b (is_short vr) at span.start span.end v.order v.inside (sized-as vr d at span.start (span.end - span.start) v.form)
      ∙ ap₂ (λ (x y : ℕ). tag_bytes x ++ (vr_bytes y ++ (length_bytes (is_short vr) (span.end - span.start) ++ between d span.start span.end))) (sym v.tagged.stands) (sym v.letters)
      ∙ ap (λ (x : ℕ). tag_bytes tag ++ (vr_bytes vr ++ (length_bytes (is_short vr) x ++ between d span.start span.end))) (sym n)
  element-encoded (Element.sequence p tag span items) d b left at next r =
      let v = r.1 in
      ap (λ (x : ℕ). between d x (x + 8) ++ items_stream items d) r.0
      ∙ ap₂ (λ (x y : List ℕ). x ++ y) (nest-encoded d b at SQ (omega (arith, v.starts, v.inside)) v.letters v.reserved)
      (items-encoded items d b left span.start next r.4)
      ∙ ap (λ (x : ℕ). tag_bytes x ++ (vr_bytes SQ ++ (0 ∷ 0 ∷ encode_items (signed_items items d)))) (sym v.tagged.stands)
  element-encoded (Element.fragments p tag span parts) d b left at next r =
      let v = r.1 in
      ap (λ (x : ℕ). between d x (x + 8) ++ fragments_stream parts d) r.0
      ∙ ap₂ (λ (x y : List ℕ). x ++ y) (nest-encoded d b at OB (omega (arith, v.starts, v.inside)) v.letters v.reserved) (fragments-encoded parts d)
      ∙ ap (λ (x : ℕ). tag_bytes x ++ (vr_bytes OB ++ (0 ∷ 0 ∷ encode_fragments (fragment_bytes parts d)))) (sym v.tagged.stands)

  elements-encoded : (es : Elements) (d : List ℕ) → OfBytes d → (left floor at next : ℕ) → ElementsLie es d left floor at next
      → elements_stream es d ≡ encode_elements (signed_elements es d)
  elements-encoded Elements.none d b left floor at next r = refl
  elements-encoded (Elements.and e es) d b left floor at next r =
      ap₂ (λ (x y : List ℕ). unless_barred (barred (tag_of e)) (λ more. x ++ more) y) (element-encoded e d b left at r.0 r.2) (elements-encoded es d b left (tag_of e + 1) r.0 next r.3)
      ∙ unless-barred-encoded (barred (tag_of e)) (signed e d) (signed_elements es d)

  items-encoded : (is : Items) (d : List ℕ) → OfBytes d → (left at next : ℕ) → ItemsLie is d left at next → items_stream is d ≡ encode_items (signed_items is d)
  items-encoded Items.last d b left at next r = refl
  items-encoded (Items.item p es is) d b left at next r =
      ap₂ (λ (x y : List ℕ). item_tag_bytes ++ (x ++ y)) (elements-encoded es d b (deeper left) 0 (at + 8) r.0 r.3) (items-encoded is d b left r.0 next r.4)
