-- Two signed contents with the same encoding are the same, where one of them has nothing in fragments: both are walked at once. Assumes
-- nothing.
use Prim.Native.Nat.{ℕ, ◌+◌, ◌*◌, ◌/◌, ◌%◌, ◌<◌, ◌≤◌}
use mathlib.Core.Path.{◌≡◌, refl, sym, ap, ap₂, ◌∙◌}
use mathlib.Core.Logic.{◌≢◌}
use mathlib.Core.Bool.{Bool, true, false, true≢false}
use mathlib.Core.List.{List, [], ◌∷◌, ◌++◌, append_assoc}
use native.Mathlib.Omega.{arith}
use lib.Dec.{eqb}
use lib.ListN.{length, get_or, take, drop}
use lib.Seq.{take_at, drop_at}
use borrow.Author.Tests.{ne_eqb}
use Rattle.dataset.specs.Vr.{OB, SQ, one_of}
use Rattle.slices.proofs.Laws.Bools.{neither}
use Rattle.stream.specs.Content.{SignedElement, SignedElements, SignedItems, in_fragments, some_in_fragments, items_in_fragments}
use Rattle.mac_theorems.proofs.Laws.Demand3.ByteSlices.{tag_bytes, vr_bytes, bytes16, bytes32}
use Rattle.mac_theorems.proofs.Laws.Demand3.Encoding.{is_short, length_bytes, encode_fragments, encode, encode_elements, encode_items}

-- ---- contents whose numbers fit their fields; every content of a well-formed data set is one (Fitting.antt)
pub record TagFits (tag : ℕ) : Type 0 where
  pub small : tag < 4294967296
  pub group : tag / 65536 ≢ 0xFFFE

-- of the long form: less than the tag bytes of an item or a delimiter, FE FF 00 E0 or FE FF DD E0, taken as a length
abbrev pub LengthFits : (short : Bool) → ℕ → Type 0
LengthFits true n = n < 65536
LengthFits false n = n < 0xE0000000

pub record ValueFits (tag vr n : ℕ) : Type 0 where
  pub tagged : TagFits tag
  pub plain : vr ≢ SQ
  pub counted : LengthFits (is_short vr) n

unfoldable mutual
  pub Fits : SignedElement → Type 0
  Fits (SignedElement.value tag vr bytes) = ValueFits tag vr (length bytes)
  Fits (SignedElement.sequence tag items) = TagFits tag × ItemsFit items
  Fits (SignedElement.fragments tag rows) = TagFits tag

  pub ElementsFit : SignedElements → Type 0
  ElementsFit SignedElements.none = Unit {0}
  ElementsFit (SignedElements.and e rest) = Fits e × ElementsFit rest

  pub ItemsFit : SignedItems → Type 0
  ItemsFit SignedItems.last = Unit {0}
  ItemsFit (SignedItems.item elements rest) = ElementsFit elements × ItemsFit rest

-- ---- numbers at the front
unfoldable front16 : List ℕ → ℕ
front16 s = get_or s 0 0 + get_or s 1 0 * 256

unfoldable front32 : List ℕ → ℕ
front32 s = get_or s 0 0 + get_or s 1 0 * 256 + get_or s 2 0 * 65536 + get_or s 3 0 * 16777216

unfoldable front_tag : List ℕ → ℕ
front_tag s = get_or s 0 0 * 65536 + get_or s 1 0 * 16777216 + get_or s 2 0 + get_or s 3 0 * 256

unfoldable front_vr : List ℕ → ℕ
front_vr s = get_or s 4 0 * 256 + get_or s 5 0

front16-back : (n : ℕ) (s : List ℕ) → n < 65536 → front16 (bytes16 n ++ s) ≡ n
unfolding front16
front16-back n s h = omega arith

front32-back : (n : ℕ) (s : List ℕ) → n < 4294967296 → front32 (bytes32 n ++ s) ≡ n
unfolding front32
front32-back n s h = omega arith

tag_back : (tag : ℕ) (s : List ℕ) → TagFits tag → front_tag (tag_bytes tag ++ s) ≡ tag
unfolding front_tag
tag_back tag s fits = let small = fits.small in omega arith

vr-back : (tag vr : ℕ) (s : List ℕ) → front_vr (tag_bytes tag ++ (vr_bytes vr ++ s)) ≡ vr
unfolding front_vr
vr-back tag vr s = omega arith

-- elements end where the bytes do, or where a tag of group FFFE stands
unfoldable at_end : List ℕ → Bool
at_end [] = true
at_end (a ∷ s) = eqb (a + get_or s 0 0 * 256) 0xFFFE

goes_on : (tag : ℕ) (s : List ℕ) → TagFits tag → at_end (tag_bytes tag ++ s) ≡ false
unfolding at_end
goes_on tag s fits = ne_eqb _ 0xFFFE group
  where
    group : tag / 65536 % 256 + tag / 65536 / 256 % 256 * 256 ≢ 0xFFFE
    group e = let small = fits.small in fits.group (omega arith)

-- an item and the end of the items begin with group FFFE, an element does not
items-end-elements : (is : SignedItems) (x : List ℕ) → at_end (encode_items is ++ x) ≡ true
unfolding at_end encode_items
items-end-elements SignedItems.last x = refl
items-end-elements (SignedItems.item es is) x = refl

element-goes-on : (e : SignedElement) (y : List ℕ) → Fits e → at_end (encode e ++ y) ≡ false
unfolding encode Fits
element-goes-on (SignedElement.value tag vr b) y c = goes_on tag _ c.tagged
element-goes-on (SignedElement.sequence tag is) y c = goes_on tag _ c.0
element-goes-on (SignedElement.fragments tag rows) y c = goes_on tag _ c

-- so an element is not where elements end
not-ended : (e : SignedElement) (x y z : List ℕ) → Fits e → at_end x ≡ true → x ≡ (encode e ++ y) ++ z → ⊥
not-ended e x y z c g q = true≢false (sym g ∙ ap at_end (q ∙ append_assoc (encode e) y z) ∙ element-goes-on e (y ++ z) c)

-- ---- the same bytes, from the same tag and VR on
record SameFront (tag tag' vr vr' : ℕ) (s s' : List ℕ) : Type 0 where
  tags : tag ≡ tag'
  letters : vr ≡ vr'
  rest : s ≡ s'

same-front : (tag tag' vr vr' : ℕ) (s s' : List ℕ) → TagFits tag → TagFits tag'
    → tag_bytes tag ++ (vr_bytes vr ++ s) ≡ tag_bytes tag' ++ (vr_bytes vr' ++ s') → SameFront tag tag' vr vr' s s'
same-front tag tag' vr vr' s s' f f' q =
    record {
      tags = sym (tag_back tag _ f) ∙ ap front_tag q ∙ tag_back tag' _ f';
      letters = sym (vr-back tag vr s) ∙ ap front_vr q ∙ vr-back tag' vr' s';
      rest = ap (λ (x : List ℕ). drop 6 x) q;
    }

-- ---- values
module _ (b b' x x' : List ℕ) where
  same-split : length b ≡ length b' → b ++ x ≡ b' ++ x' → (b ≡ b') × (x ≡ x')
  same-split n q = (
    sym (take_at b x (length b) refl) ∙ ap₂ take n q ∙ take_at b' x' (length b') refl,
    sym (drop_at b x (length b) refl) ∙ ap₂ drop n q ∙ drop_at b' x' (length b') refl,
  )

  same-value : (short : Bool) → LengthFits short (length b) → LengthFits short (length b')
      → (length_bytes short (length b) ++ b) ++ x ≡ (length_bytes short (length b') ++ b') ++ x' → (b ≡ b') × (x ≡ x')
  same-value true h h' q =
      same-split (sym (front16-back (length b) (b ++ x) h) ∙ ap front16 q ∙ front16-back (length b') (b' ++ x') h') (ap (λ (s : List ℕ). drop 2 s) q)
  same-value false h h' q =
      same-split
      (sym (front32-back (length b) (b ++ x) (omega arith)) ∙ ap (λ (s : List ℕ). front32 (drop 2 s)) q ∙ front32-back (length b') (b' ++ x') (omega arith))
      (ap (λ (s : List ℕ). drop 6 s) q)

-- where fragments stand, the four bytes there are above every length that fits
fragments-large : (rows : List (List ℕ)) (x : List ℕ) → 0xE0000000 ≤ front32 (encode_fragments rows ++ x)
unfolding encode_fragments front32
fragments-large [] x = omega arith
fragments-large (bytes ∷ rows) x = omega arith

not-fragments : (b x y : List ℕ) (rows : List (List ℕ)) → LengthFits (is_short OB) (length b)
    → (length_bytes (is_short OB) (length b) ++ b) ++ x ≡ 0 ∷ 0 ∷ (encode_fragments rows ++ y) → ⊥
unfolding one_of
not-fragments b x y rows h q =
    let n = front32-back (length b) (b ++ x) (omega arith) in
    let m = ap (λ (s : List ℕ). front32 (drop 2 s)) q in
    omega (arith, fragments-large rows y)

-- ---- the whole: a content with nothing in fragments and any other, each before more bytes
mutual
  unfolding encode Fits in_fragments

  same-element : (e k : SignedElement) (x y : List ℕ) → Fits e → Fits k → in_fragments e ≡ false → encode e ++ x ≡ encode k ++ y → (e ≡ k) × (x ≡ y)
  same-element (SignedElement.value tag vr b) (SignedElement.value tag' vr' b') x y f g n q =
      let s = same-front tag tag' vr vr' _ _ f.tagged g.tagged q in
      let v = same-value b b' x y (is_short vr) f.counted (rw s.letters g.counted) (s.rest ∙ rw s.letters) in
      (cc (s.tags, s.letters, v.0), v.1)
  same-element (SignedElement.value tag vr b) (SignedElement.sequence tag' is) x y f g n q =
      absurd (f.plain (same-front tag tag' vr SQ _ _ f.tagged g.0 q).letters)
  same-element (SignedElement.value tag vr b) (SignedElement.fragments tag' rows) x y f g n q =
      let s = same-front tag tag' vr OB _ _ f.tagged g q in absurd (not-fragments b x y rows (rw (← s.letters) f.counted) (rw s.letters at s.rest))
  same-element (SignedElement.sequence tag is) (SignedElement.value tag' vr' b) x y f g n q =
      absurd (g.plain (sym (same-front tag tag' SQ vr' _ _ f.0 g.tagged q).letters))
  same-element (SignedElement.sequence tag is) (SignedElement.sequence tag' ks) x y f g n q =
      let s = same-front tag tag' SQ SQ _ _ f.0 g.0 q in
      let v = same-items is ks x y f.1 g.1 n (ap (λ (z : List ℕ). drop 2 z) s.rest) in
      (cc (s.tags, v.0), v.1)
  same-element (SignedElement.sequence tag is) (SignedElement.fragments tag' rows) x y f g n q =
      let s = (same-front tag tag' SQ OB _ _ f.0 g q).letters in absurd (omega arith)
  same-element (SignedElement.fragments tag rows) k x y f g n q = absurd (true≢false n)

  same-elements : (es ks : SignedElements) (x y : List ℕ) → ElementsFit es → ElementsFit ks → some_in_fragments es ≡ false → at_end x ≡ true → at_end y ≡ true
      → encode_elements es ++ x ≡ encode_elements ks ++ y → (es ≡ ks) × (x ≡ y)
  same-elements SignedElements.none SignedElements.none x y f g n ended ended' q = (refl, q)
  same-elements SignedElements.none (SignedElements.and k ks) x y f g n ended ended' q = absurd (not-ended k x (encode_elements ks) y g.0 ended q)
  same-elements (SignedElements.and e es) SignedElements.none x y f g n ended ended' q = absurd (not-ended e y (encode_elements es) x f.0 ended' (sym q))
  same-elements (SignedElements.and e es) (SignedElements.and k ks) x y f g n ended ended' q =
      let m = neither (in_fragments e) (some_in_fragments es) n in
      let s = same-element e k (encode_elements es ++ x) (encode_elements ks ++ y) f.0 g.0 m.0 (simp append_assoc at q) in
      let r = same-elements es ks x y f.1 g.1 m.1 ended ended' s.1 in
      (cc (s.0, r.0), r.1)

  same-items : (is ks : SignedItems) (x y : List ℕ) → ItemsFit is → ItemsFit ks → items_in_fragments is ≡ false → encode_items is ++ x ≡ encode_items ks ++ y
      → (is ≡ ks) × (x ≡ y)
  same-items SignedItems.last SignedItems.last x y f g n q = (refl, ap (λ (z : List ℕ). drop 4 z) q)
  same-items SignedItems.last (SignedItems.item k ks) x y f g n q = let z = ap (λ (z : List ℕ). get_or z 2 0) q in absurd (omega arith)
  same-items (SignedItems.item e es) SignedItems.last x y f g n q = let z = ap (λ (z : List ℕ). get_or z 2 0) q in absurd (omega arith)
  same-items (SignedItems.item e es) (SignedItems.item k ks) x y f g n q =
      let m = neither (some_in_fragments e) (items_in_fragments es) n in
      let s = same-elements e k (encode_items es ++ x) (encode_items ks ++ y) f.0 g.0 m.0 (items-end-elements es x) (items-end-elements ks y)
      (simp append_assoc at (ap (λ (z : List ℕ). drop 4 z) q)) in
      let r = same-items es ks x y f.1 g.1 m.1 s.1 in
      (cc (s.0, r.0), r.1)

ended : at_end [] ≡ true
unfolding at_end
ended = refl

-- equal encodings have equal contents; of the second nothing is asked but that its numbers fit
pub injective : (a b : SignedElements) → ElementsFit a → ElementsFit b → some_in_fragments a ≡ false → encode_elements a ≡ encode_elements b → a ≡ b
injective a b f g n q = (same-elements a b [] [] f g n ended ended (ap (λ (s : List ℕ). s ++ []) q)).0
