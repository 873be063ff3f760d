-- The listed elements: their stream and their signed content. Assumes nothing.
use Prim.Native.Nat.{ℕ, ◌+◌}
use mathlib.Core.Path.{◌≡◌, refl, sym, ap, ap₂, ◌∙◌, subst}
use mathlib.Core.Bool.{false, true≢false}
use mathlib.Core.List.{List, [], ◌∷◌, ◌++◌}
use mathlib.Core.Option.{Option, some}
use mathlib.Core.Option as Opt
use lib.Dec.{eqb}
use Rattle.answer.specs.Answer.{◌or_else◌}
use Rattle.dataset.specs.Vr.{SQ, OB, UN}
use Rattle.dataset.specs.Tree.{Element, Elements, vr_of}
use Rattle.dataset.proofs.Laws.Reading.Lies.{ElementsLie}
use Rattle.dataset.specs.Lookup.{element_of}
use Rattle.stream.specs.Content.{SignedElement, SignedElements, signed, joined, content}
use Rattle.stream.specs.Stream.{found_stream, listed_stream}
use Rattle.stream.specs.UN.{is_un, holds_un}
use Rattle.stream.specs.Listed.{element_answer, tags_answer}
use Rattle.mac_theorems.specs.Demand3.{found_holds_un, listed_hold_un}
use Rattle.slices.proofs.Laws.Bools.{neither}
use Rattle.mac_theorems.proofs.Laws.Demand3.Encoding.{encode_elements, element-encoded}
use Rattle.mac_theorems.proofs.Laws.Demand3.Injective.{ElementsFit}
use Rattle.mac_theorems.proofs.Laws.Demand3.Fitting.{WithinSize, element-fits}
use Rattle.mac_theorems.proofs.Laws.Answers.ListedElements.{tags-unrefused}
use Rattle.mac_theorems.proofs.Laws.Length.FoundLies.{found_at}

-- a content is that of the first listed element and that of the others
record Joined (o : Option Element) (p : Option SignedElements) (d : List ℕ) (row : SignedElements) : Type 0 where
  element : Element
  rest : SignedElements
  found : o ≡ some element
  others : p ≡ some rest
  is : SignedElements.and (signed element d) rest ≡ row

joined_of : (o : Option Element) (p : Option SignedElements) (d : List ℕ) (row : SignedElements) → joined o p d ≡ some row → Joined o p d row
joined_of Opt.none p d row h = absurd (true≢false (cc))
joined_of (some e) Opt.none d row h = absurd (true≢false (cc))
joined_of (some e) (some r) d row h = record { element = e; rest = r; found = refl; others = refl; is = cc }

-- ---- the stream is the content's encoding, and the content's numbers fit
module _ (d : List ℕ) (within : WithinSize d) (es : Elements) (left floor at next : ℕ) (lies : ElementsLie es d left floor at next) where
  pub listed-encoded : (tags : List ℕ) (row : SignedElements) → content tags es d ≡ some row → listed_stream tags es d ≡ encode_elements row
  unfolding content listed_stream encode_elements
  listed-encoded [] row h = let q : SignedElements.none ≡ row = cc in rw (← q)
  listed-encoded (tag ∷ tags) row h =
      let j = joined_of (element_of tag es) (content tags es d) d row h in
      let f = found_at tag es d left floor at next lies j.element j.found in
      ap₂ (λ (x : Option Element) (y : List ℕ). found_stream x d ++ y) j.found (listed-encoded tags j.rest j.others)
      ∙ ap (λ (x : List ℕ). x ++ encode_elements j.rest) (element-encoded j.element d within.bytes left f.from f.mid f.lies)
      ∙ ap encode_elements j.is

  pub content-fits : (tags : List ℕ) (row : SignedElements) → content tags es d ≡ some row → ElementsFit row
  unfolding content ElementsFit
  content-fits [] row h = let q : SignedElements.none ≡ row = cc in subst ElementsFit q tt
  content-fits (tag ∷ tags) row h =
      let j = joined_of (element_of tag es) (content tags es d) d row h in
      let f = found_at tag es d left floor at next lies j.element j.found in
      subst ElementsFit j.is (element-fits j.element d within left f.from f.mid f.lies, content-fits tags j.rest j.others)

-- ---- the same content in another data set, with no UN in a listed sequence of either: the same of 13, 14 and 15

-- the VR stands in the signed content
abbrev signed_vr : SignedElement → ℕ
signed_vr (SignedElement.value tag vr bytes) = vr
signed_vr (SignedElement.sequence tag items) = SQ
signed_vr (SignedElement.fragments tag rows) = OB

vr-signed : (e : Element) (d : List ℕ) → vr_of e ≡ signed_vr (signed e d)
unfolding signed
vr-signed (Element.value at tag vr span) d = refl
vr-signed (Element.sequence at tag span items) d = refl
vr-signed (Element.fragments at tag span parts) d = refl

-- so two elements with the same content are both UN or neither is
same-vr : (e k : Element) (d s : List ℕ) → signed e d ≡ signed k s → is_un e ≡ is_un k
same-vr e k d s h = ap (λ (v : ℕ). eqb v UN) (vr-signed e d ∙ ap signed_vr h ∙ sym (vr-signed k s))

-- of one tag: the elements that stand under it have the same content
same-element : (i : ℕ) (e k : Element) (d s : List ℕ) → signed e d ≡ signed k s → holds_un e ≡ false → holds_un k ≡ false → element_answer i (some e) ≡ element_answer i (some k)
unfolding element_answer
same-element i e k d s q h n = rw (same-vr e k d s q, h, n)

pub same-tags : (tags : List ℕ) (i : ℕ) (es ks : Elements) (d s : List ℕ) (row : SignedElements) → content tags es d ≡ some row → content tags ks s ≡ some row
    → listed_hold_un tags es ≡ false → listed_hold_un tags ks ≡ false → tags_answer i tags es ≡ tags_answer i tags ks
unfolding tags_answer content listed_hold_un
same-tags [] i es ks d s row c k m n = refl
same-tags (tag ∷ tags) i es ks d s row c k m n =
    let j = joined_of (element_of tag es) (content tags es d) d row c in
    let l = joined_of (element_of tag ks) (content tags ks s) s row k in
    let q : signed j.element d ≡ signed l.element s = cc (j.is, l.is) in
    let r : l.rest ≡ j.rest = cc (j.is, l.is) in
    let h : holds_un j.element ≡ false = subst (λ (o : Option Element). found_holds_un o ≡ false) j.found (neither (found_holds_un (element_of tag es)) (listed_hold_un tags es) m).0 in
    let z : holds_un l.element ≡ false = subst (λ (o : Option Element). found_holds_un o ≡ false) l.found (neither (found_holds_un (element_of tag ks)) (listed_hold_un tags ks) n).0 in
    let first : element_answer i (element_of tag es) ≡ element_answer i (element_of tag ks) =
    ap (element_answer i) j.found ∙ same-element i j.element l.element d s q h z ∙ sym (ap (element_answer i) l.found) in
    ap₂ ◌or_else◌ first
    (same-tags tags (i + 1) es ks d s j.rest j.others (l.others ∙ ap some r) (neither (found_holds_un (element_of tag es)) (listed_hold_un tags es) m).1
    (neither (found_holds_un (element_of tag ks)) (listed_hold_un tags ks) n).1)

-- where none of 13, 14 and 15 is given, no listed sequence holds UN
pub none-hold : (tags : List ℕ) (i : ℕ) (es : Elements) → (tags_answer i tags es).number ≡ 0 → listed_hold_un tags es ≡ false
unfolding listed_hold_un
none-hold [] i es h = refl
none-hold (tag ∷ tags) i es h =
    let g = tags-unrefused i tag tags es h in
    rw (g.first.is, g.first.clean) (none-hold tags (i + 1) es g.rest)
