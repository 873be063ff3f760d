-- What the reading makes sure of, in the signed content: its numbers fit their fields. Assumes nothing.
use Prim.Native.Nat.{ℕ, ◌+◌, ◌-◌, ◌≤◌}
use mathlib.Core.Path.{◌≡◌}
use mathlib.Core.Bool.{Bool, true, false}
use mathlib.Core.List.{List}
use native.Mathlib.Omega.{arith}
use lib.ListN.{length}
use Rattle.dataset.specs.Bytes.{tag_at}
use Rattle.slices.specs.Lists.{between, OfBytes}
use Rattle.dataset.specs.Tree.{Element, Elements, Items, tag_of}
use Rattle.dataset.specs.Order.{Tagged}
use Rattle.dataset.proofs.Laws.Reading.Lies.{ElementLies, ElementsLie, ItemsLie}
use Rattle.dataset.specs.Reading.{size_limit, deeper}
use Rattle.stream.specs.TagList.{barred, unless_barred}
use Rattle.stream.specs.Content.{SignedElement, SignedElements, signed, signed_elements, signed_items}
use Rattle.slices.proofs.Laws.Parts.{length-between}
use Rattle.mac_theorems.proofs.Laws.Demand3.ByteSlices.{small16}
use Rattle.mac_theorems.proofs.Laws.Demand3.Encoding.{is_short, SizedAs, sized-as}
use Rattle.mac_theorems.proofs.Laws.Demand3.Injective.{TagFits, LengthFits, Fits, ElementsFit, ItemsFit}

-- bytes, and no more than a data set may have
pub record WithinSize (d : List ℕ) : Type 0 where
  pub bytes : OfBytes d
  pub small : length d ≤ size_limit

tag_fits : (d : List ℕ) → OfBytes d → (at tag : ℕ) → Tagged d at tag → TagFits tag
unfolding tag_at
tag_fits d b at tag t =
    let e = t.stands in
    let h = small16 d b at in
    let k = small16 d b (at + 2) in
    record { small = omega arith; group = λ q. t.group (omega arith) }

length-fits : (short : Bool) (d : List ℕ) → OfBytes d → (at start n : ℕ) → SizedAs short d at start n → n ≤ size_limit → LengthFits short n
length-fits true d b at start n s h = let k = small16 d b (at + 6) in omega (arith, s.1)
length-fits false d b at start n s h = omega arith

unless-barred-fits : (b : Bool) (e : SignedElement) (rest : SignedElements) → Fits e → ElementsFit rest → ElementsFit (unless_barred b (SignedElements.and e) rest)
unfolding ElementsFit
unless-barred-fits true e rest p q = q
unless-barred-fits false e rest p q = (p, q)

mutual
  unfolding signed ElementLies Fits

  pub element-fits : (e : Element) (d : List ℕ) → WithinSize d → (left at next : ℕ) → ElementLies e d left at next → Fits (signed e d)
  element-fits (Element.value p tag vr span) d b left at next r =
      let v = r.1 in
      let n : length (between d span.start span.end) ≡ span.end - span.start = length-between d span.start span.end v.order v.inside in
      record {
        tagged = tag_fits d b.bytes at tag v.tagged;
        plain = v.plain;
        counted = rw n (length-fits (is_short vr) d b.bytes at span.start (span.end - span.start) (sized-as vr d at span.start (span.end - span.start) v.form) (omega (arith, v.inside, b.small)));
      }
  element-fits (Element.sequence p tag span items) d b left at next r =
      (tag_fits d b.bytes at tag r.1.tagged, items-fit items d b left span.start next r.4)
  element-fits (Element.fragments p tag span parts) d b left at next r = tag_fits d b.bytes at tag r.1.tagged

  elements-fit : (es : Elements) (d : List ℕ) → WithinSize d → (left floor at next : ℕ) → ElementsLie es d left floor at next → ElementsFit (signed_elements es d)
  elements-fit Elements.none d b left floor at next r = tt
  elements-fit (Elements.and e es) d b left floor at next r =
      unless-barred-fits (barred (tag_of e)) (signed e d) (signed_elements es d) (element-fits e d b left at r.0 r.2)
      (elements-fit es d b left (tag_of e + 1) r.0 next r.3)

  items-fit : (is : Items) (d : List ℕ) → WithinSize d → (left at next : ℕ) → ItemsLie is d left at next → ItemsFit (signed_items is d)
  items-fit Items.last d b left at next r = tt
  items-fit (Items.item p es is) d b left at next r =
      (elements-fit es d b (deeper left) 0 (at + 8) r.0 r.3, items-fit is d b left r.0 next r.4)
