-- Where an element lies by what its reader hands on, what follows of where it lies, and what follows of what `seek` answers. Assumes nothing.
use Rattle.std.proofs.Common.{if◌then◌else◌}
use Rattle.std.specs.Prelude.{Result, Ok, Err}
use Prim.Native.Nat.{ℕ, ◌-◌, ◌≤◌, ◌<◌}
use mathlib.Core.Path.{◌≡◌, refl, sym, ap}
use mathlib.Core.Bool.{Bool, true, false, true≢false}
use mathlib.Core.List.{List}
use native.Mathlib.Omega.{arith}
use borrow.Author.Tests.{eq-eqb, ne_eqb}
use lib.ListN.{length}
use Rattle.answer.specs.declared.Answer.{Answer}
use Rattle.dataset.specs.Vr.{OB, SQ}
use Rattle.dataset.specs.Header.{ElementHeader, element_at}
use Rattle.dataset.specs.Tree.{Span, span, Element, Elements, Items, vr_of, span_of}
use Rattle.dataset.specs.Reading.{Reading, fault, read, ◌>>=◌, One, element, explicit, by_header, elements_at, items_at, fragments_at, one_at}
use Rattle.dataset.specs.Lookup.{element_of}
use Rattle.dataset.proofs.Laws.Header.HeaderFacts.{ElementFacts, element-facts}
use Rattle.dataset.proofs.Laws.Reading.Outcomes.{items-next, fragments-next}
use Rattle.dataset.proofs.Laws.Reading.Guarantees.{items-filled}
use Rattle.dataset.specs.Order.{HeaderExtent}
use Rattle.dataset.specs.Place.{ItemsAre, ElementPlaced, Placed, SoughtIn}
use Rattle.dataset.specs.Inner.Outcomes.{outcome_of}
use Rattle.dataset.specs.Inner.Place.{is_there, place_by}
use Rattle.dataset.specs.declared.extent.Extent.{Extent}
use Rattle.dataset.specs.declared.seek.Place.{Place}
use Rattle.dataset.specs.declared.seek.Place.TheVariants as place
use Rattle.dataset.specs.declared.seek.Sought.{Sought}

-- ---- what is read from `at` on in an extent
abbrev pub one_from : List ℕ → Extent → (at least : ℕ) → Reading One
one_from d x at least = one_at explicit d x.delimited x.left x.stop at least

abbrev pub elements_from : List ℕ → Extent → (at least : ℕ) → Reading Elements
elements_from d x at least = elements_at explicit d x.delimited x.left x.stop at least

-- ---- `place_by`, by what the reader of one element hands on
module _ (x : Extent) (vr start end next : ℕ) where
  pub value-place : (vr ≡ SQ → ⊥) → end ≡ next → place.Value vr start end ≡ place_by x vr start end next
  unfolding place_by
  value-place h e = rw (ne_eqb vr SQ h, eq-eqb end next e)

  pub fragments-place : (vr ≡ SQ → ⊥) → (end ≡ next → ⊥) → place.Fragments ≡ place_by x vr start end next
  unfolding place_by
  fragments-place h e = rw (ne_eqb vr SQ h, ne_eqb end next e)

  pub delimited-place : vr ≡ SQ → (end ≡ next → ⊥)
      → place.Items (record { delimited = true; left = x.left; stop = x.stop; from = start }) ≡ place_by x vr start end next
  unfolding place_by
  delimited-place h e = rw (eq-eqb vr SQ h, ne_eqb end next e)

  pub defined-place : vr ≡ SQ → end ≡ next
      → place.Items (record { delimited = false; left = x.left; stop = end; from = start }) ≡ place_by x vr start end next
  unfolding place_by
  defined-place h e = rw (eq-eqb vr SQ h, eq-eqb end next e)

-- ---- the element at `at` lies there
module _ (d : List ℕ) (x : Extent) (at least : ℕ) (inside : x.stop ≤ length d) where
  -- the items of a sequence, by its header
  items-placed : (start stop next : ℕ) (is : Items) (inner : Bool) (n : ℕ) → HeaderExtent n x.stop start stop inner → 0 < x.left → 8 ≤ start → start ≤ stop → stop ≤ x.stop
      → items_at explicit d inner x.left stop start ≡ read is next
      → (y : Extent) × (place_by x SQ start (if inner then next - 8 else next) next ≡ place.Items y) × ItemsAre d (span start (if inner then next - 8 else next)) is y
  items-placed start stop next is true n h l k o u w =
      let m = items-next d x.left stop start next o true (sym (ap outcome_of w)) in
      let s = h.1 in (
        record { delimited = true; left = x.left; stop = x.stop; from = start },
        sym (delimited-place x SQ start (next - 8) next refl (λ z. omega (arith, m))),
        record { lies = record { order = omega arith; inside = inside }; level = l; starts = refl; next = next; reads = rw (← s) w; ends = refl },
      )
  items-placed start stop next is false n h l k o u w =
      let s = items-filled d x.left stop start is next w in (
        record { delimited = false; left = x.left; stop = next; from = start },
        sym (defined-place x SQ start next next refl refl),
        record { lies = record { order = omega arith; inside = omega arith }; level = l; starts = refl; next = next; reads = rw s (rw s at w); ends = refl },
      )

  by-header : (e : Element) (next : ℕ) (h : ElementHeader) → ElementFacts d x.delimited x.left x.stop at least h
      → by_header (λ inner. items_at explicit d inner x.left) (fragments_at explicit d x.left x.stop) at h ≡ read (element e) next
      → ElementPlaced d e (place_by x (vr_of e) (span_of e).start (span_of e).end next)
  unfolding by_header
  by-header e next (ElementHeader.refused a) f q = absurd (true≢false (cc))
  by-header e next (ElementHeader.ends n) f q = absurd (true≢false (cc))
  by-header e next (ElementHeader.value tag vr start end) f q =
      let k : Element.value at tag vr (span start end) ≡ e = cc in
      let n : end ≡ next = cc in
      rw (← k) (sym (value-place x vr start end next f.1.plain n), f.1.order, omega (arith, f.1.inside))
  by-header e next (ElementHeader.sequence tag start end inner) f q = go (items_at explicit d inner x.left end start) refl q
    where
      go : (o : Reading Items) → items_at explicit d inner x.left end start ≡ o
          → (o >>= λ (is, n). read (element (Element.sequence at tag (span start (if inner then n - 8 else n)) is)) n) ≡ read (element e) next
          → ElementPlaced d e (place_by x (vr_of e) (span_of e).start (span_of e).end next)
      go (fault g) w q = absurd (true≢false (cc))
      go (read is n) w q =
          let k : Element.sequence at tag (span start (if inner then n - 8 else n)) is ≡ e = cc in
          let m : n ≡ next = cc in
          rw (← k, ← m) (items-placed start end n is inner _ f.6 f.4 (omega (arith, f.1.starts)) f.2 f.3 w)
  by-header e next (ElementHeader.fragments tag start) f q = go (fragments_at explicit d x.left x.stop start) refl q
    where
      go : (o : Reading (List Span)) → fragments_at explicit d x.left x.stop start ≡ o
          → (o >>= λ (ss, n). read (element (Element.fragments at tag (span start (n - 8)) ss)) n) ≡ read (element e) next
          → ElementPlaced d e (place_by x (vr_of e) (span_of e).start (span_of e).end next)
      go (fault g) w q = absurd (true≢false (cc))
      go (read ss n) w q =
          let k : Element.fragments at tag (span start (n - 8)) ss ≡ e = cc in
          let m : n ≡ next = cc in
          let i = fragments-next d x.left x.stop start n f.1.inside (sym (ap outcome_of w)) in
          rw (← k, ← m) (sym (fragments-place x OB start (n - 8) n (λ z. omega arith) (λ z. omega (arith, i, f.1.starts))))

  pub place_at : (e : Element) (next : ℕ) → one_from d x at least ≡ read (element e) next
      → ElementPlaced d e (place_by x (vr_of e) (span_of e).start (span_of e).end next)
  unfolding one_at
  place_at e next q = by-header e next (element_at d x.delimited x.left x.stop at least) (element-facts d x.delimited x.left x.stop at least) q

  pub placed_at : (e : Element) (vr start end next : ℕ) (p : Place) → one_from d x at least ≡ read (element e) next → vr_of e ≡ vr → (span_of e).start ≡ start
      → (span_of e).end ≡ end → p ≡ place_by x vr start end next → ElementPlaced d e p
  placed_at e vr start end next p q a b c w = rw (w, ← a, ← b, ← c) (place_at e next q)

-- ---- what follows of where an element lies
pub placed-there : (d : List ℕ) (e : Element) (p : Place) → ElementPlaced d e p → is_there p ≡ true
placed-there d (Element.value at tag vr span) p h = rw h.0
placed-there d (Element.sequence at tag span items) p h = rw h.1
placed-there d (Element.fragments at tag span parts) p h = rw h

-- ---- what follows of what `seek` answers

-- a data set that is read, and where what stands under the two tags lies
pub record IsSought (d : List ℕ) (tag tag' : ℕ) (o : Reading Elements) (p q : Place) (next : ℕ) : Type 0 where
  pub what : Elements
  pub is : o ≡ read what next
  pub placed : Placed d (element_of tag what) p
  pub placed' : Placed d (element_of tag' what) q

pub sought-past : (d : List ℕ) (tag tag' : ℕ) (o : Reading Elements) (s : Result Sought Answer) (p q : Place) (next : ℕ) → SoughtIn d tag tag' o s → s ≡ Ok (record { first = p; second = q; next = next })
    → IsSought d tag tag' o p q next
sought-past d tag tag' (fault f) s p q next h e = absurd (true≢false (cc))
sought-past d tag tag' (read es n) s p q next h e =
    let u : record { first = h.first; second = h.second; next = n } ≡ record { first = p; second = q; next = next } = cc in
    let x : n ≡ next = ap (λ (t : Sought). t.next) u in
    let y : h.first ≡ p = ap (λ (t : Sought). t.first) u in
    let z : h.second ≡ q = ap (λ (t : Sought). t.second) u in
    record { what = es; is = rw x; placed = rw (← y) h.placed; placed' = rw (← z) h.placed' }

pub sought-refused : (d : List ℕ) (tag tag' : ℕ) (o : Reading Elements) (s : Result Sought Answer) (f : Answer) → SoughtIn d tag tag' o s → s ≡ Err f → o ≡ fault f
sought-refused d tag tag' (fault g) s f h e = let q : g ≡ f = cc in ap fault q
sought-refused d tag tag' (read es n) s f h e = let u = h.is in absurd (true≢false (cc))
