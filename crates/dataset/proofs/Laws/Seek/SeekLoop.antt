-- What the arms of `or_here` give, what one turn of the loop of `seek_in` does, and what `seek` refuses, with the facts of the place as premises.
-- Assumes nothing.
use Rattle.std.proofs.Common.{if◌then◌else◌}
use Rattle.std.specs.Prelude.{Result, Ok, Err}
use Prim.Native.Nat.{ℕ, ◌+◌, ◌-◌, ◌≤◌, ◌<◌}
use mathlib.Core.Path.{◌≡◌, refl, sym, ap, ◌∙◌}
use mathlib.Core.Bool.{Bool, true, false, not, true≢false}
use mathlib.Core.List.{List}
use mathlib.Core.Option.{Option, some}
use mathlib.Core.Option as Opt
use native.Mathlib.Omega.{arith}
use lib.Dec.{eqb}
use borrow.Author.Tests.{eq-eqb, ne_eqb}
use Rattle.answer.specs.declared.Answer.{Answer}
use Rattle.answer.specs.Step.{test_by}
use Rattle.dataset.specs.Tree.{Element, Elements, tag_of}
use Rattle.dataset.specs.Reading.{Reading, fault, read, ◌>>=◌, One, ended, element, by_one, handed_on, one_case}
use Rattle.dataset.specs.Lookup.{element_of}
use Rattle.dataset.proofs.Laws.Extent.Outside.{outside-fault}
use Rattle.dataset.proofs.Laws.Reading.Outcomes.{IsElement, is-one-fault, is-one-end}
use Rattle.dataset.specs.declared.reading.OneOutcome.{OneOutcome}
use Rattle.dataset.specs.declared.reading.OneOutcome.TheVariants as one
use Rattle.dataset.proofs.Laws.Reading.Unfolding.{elements-by}
use Rattle.dataset.proofs.Laws.Reading.Loops.{answered, one_found, one-past}
use Rattle.dataset.specs.Extent.{elements_in, outside_answer}
use Rattle.dataset.specs.Place.{Lies, ElementPlaced, Placed, SoughtIn}
use Rattle.dataset.specs.Inner.Place.{is_there, place_by, or_here}
use Rattle.dataset.specs.declared.extent.Extent.{Extent}
use Rattle.dataset.specs.declared.seek.Place.{Place}
use Rattle.dataset.specs.declared.seek.Place.TheVariants as place
use Rattle.dataset.proofs.Laws.Seek.Places.{one_from, elements_from, placed_at, placed-there}

-- ---- `or_here`
module _ (p here-at : Place) (tag here : ℕ) where
  pub here-other : (here ≡ tag → ⊥) → p ≡ or_here p tag here here-at
  unfolding or_here
  here-other h = rw (ne_eqb here tag h)

  pub here-there : (b : Bool) → here ≡ tag → b ≡ is_there p → b ≡ true → p ≡ or_here p tag here here-at
  unfolding or_here
  here-there b h e t = rw (eq-eqb here tag h, sym e ∙ t)

  pub here-first : (b : Bool) → here ≡ tag → b ≡ is_there p → b ≡ false → here-at ≡ or_here p tag here here-at
  unfolding or_here
  here-first b h e t = rw (eq-eqb here tag h, sym e ∙ t)

-- ---- what was found of a tag before, and what is found of it in what is left
unfoldable pub or_later : Option Element → Option Element → Option Element
or_later Opt.none o = o
or_later (some e) o = some e

-- the element, where it has the tag
unfoldable hit : ℕ → Element → Option Element
hit tag e = if eqb (tag_of e) tag then some e else Opt.none

unfoldable pub seen : (tag : ℕ) → Option Element → Reading Elements → Reading (Option Element)
seen tag f (fault g) = fault g
seen tag f (read es n) = read (or_later f (element_of tag es)) n

-- one element more in front
front : (tag : ℕ) (f : Option Element) (e : Element) (es : Elements) → or_later f (element_of tag (Elements.and e es)) ≡ or_later (or_later f (hit tag e)) (element_of tag es)
unfolding or_later hit element_of
front tag (some g) e es = refl
front tag Opt.none e es = go (eqb (tag_of e) tag)
  where
    go : (b : Bool) → (if b then some e else element_of tag es) ≡ or_later (if b then some e else Opt.none) (element_of tag es)
    go true = refl
    go false = refl

seen_front : (tag : ℕ) (f : Option Element) (e : Element) (o : Reading Elements) (k : Elements × ℕ → Reading Elements)
    → ((es : Elements) (n : ℕ) → k (es, n) ≡ read (Elements.and e es) n) → seen tag f (o >>= k) ≡ seen tag (or_later f (hit tag e)) o
unfolding seen
seen_front tag f e (fault g) k h = refl
seen_front tag f e (read es n) k h = rw (h es n, front tag f e es)

-- what is left at `at` is one element and the rest
left_is : (d : List ℕ) (x : Extent) (at least : ℕ) → at ≤ x.stop → (o : Reading One) → one_from d x at least ≡ o
    → elements_from d x at least ≡ (o >>= by_one (elements_from d x))
left_is d x at least = elements-by d x.delimited x.left x.stop at least

-- ---- the loop's invariant

-- what was found under a tag before `at`, and lies at p
pub record TagLoop (d : List ℕ) (x : Extent) (tag at least : ℕ) (p : Place) : Type 0 where
  pub found : Option Element
  pub placed : Placed d found p
  pub same : seen tag Opt.none (elements_in d x) ≡ seen tag found (elements_from d x at least)

pub record SeekLoop (d : List ℕ) (x : Extent) (tag tag' at least : ℕ) (p q : Place) : Type 0 where
  pub inside : at ≤ x.stop
  pub first : TagLoop d x tag at least p
  pub second : TagLoop d x tag' at least q

pub seek-start : (d : List ℕ) (x : Extent) (tag tag' : ℕ) → Lies d x → SeekLoop d x tag tag' x.from 0 place.Absent place.Absent
seek-start d x tag tag' l = record { inside = l.order; first = none_yet tag; second = none_yet tag' }
  where
    none_yet : (t : ℕ) → TagLoop d x t x.from 0 place.Absent
    none_yet t = record { found = Opt.none; placed = refl; same = refl }

module _ (d : List ℕ) (x : Extent) (at least : ℕ) (e : Element) (next : ℕ)
    (is : one_from d x at least ≡ read (element e) next) (here-at : Place) (there : ElementPlaced d e here-at) (tag : ℕ) where
  placed_on : (f : Option Element) (p : Place) → Placed d f p → Placed d (or_later f (hit tag e)) (or_here p tag (tag_of e) here-at)
  unfolding or_later hit or_here
  placed_on f p h = go (eqb (tag_of e) tag) f h
    where
      go : (b : Bool) (f : Option Element) → Placed d f p
          → Placed d (or_later f (if b then some e else Opt.none)) (if not b then p else if is_there p then p else here-at)
      go false Opt.none h = h
      go false (some g) h = h
      go true (some g) h = rw (placed-there d g p h) h
      go true Opt.none h = rw h there

  tag-again : (p : Place) → at ≤ x.stop → TagLoop d x tag at least p → TagLoop d x tag next (tag_of e + 1) (or_here p tag (tag_of e) here-at)
  unfolding by_one
  tag-again p h i = record {
    found = or_later i.found (hit tag e);
    placed = placed_on i.found p i.placed;
    same = i.same ∙ rw (left_is d x at least h (read (element e) next) is)
        (seen_front tag i.found e (elements_from d x next (tag_of e + 1)) _ λ es n. refl);
  }

seen_none : (tag : ℕ) (f : Option Element) (n : ℕ) → seen tag f (read Elements.none n) ≡ read f n
unfolding seen or_later element_of
seen_none tag Opt.none n = refl
seen_none tag (some g) n = refl

seen-fault : (tag : ℕ) (o : Reading Elements) (g : Answer) → seen tag Opt.none o ≡ fault g → o ≡ fault g
unfolding seen
seen-fault tag (fault f) g e = let q : f ≡ g = cc in ap fault q
seen-fault tag (read es n) g e = absurd (true≢false (cc))

seen_read : (d : List ℕ) (tag tag' : ℕ) (f f' : Option Element) (o : Reading Elements) (n : ℕ) (p q : Place) → Placed d f p → Placed d f' q
    → seen tag Opt.none o ≡ read f n → seen tag' Opt.none o ≡ read f' n → SoughtIn d tag tag' o (Ok (record { first = p; second = q; next = n }))
unfolding seen or_later
seen_read d tag tag' f f' (fault g) n p q h k e e' = absurd (true≢false (cc))
seen_read d tag tag' f f' (read es m) n p q h k e e' =
    let z : element_of tag es ≡ f = cc in
    let z' : element_of tag' es ≡ f' = cc in
    let y : n ≡ m = cc in
    record { first = p; second = q; is = rw y; placed = rw z h; placed' = rw z' k }

-- ---- a turn of the loop: r is what the reader of one element answers
module _ (d : List ℕ) (x : Extent) (at least : ℕ) (r : Result OneOutcome Answer) (e : one_case r ≡ handed_on (one_from d x at least))
    (tag tag' : ℕ) (p q : Place) (i : SeekLoop d x tag tag' at least p q) where
  pub seek-refused : (f : Answer) → r ≡ Err f → SoughtIn d tag tag' (elements_in d x) (Err f)
  unfolding seen
  seek-refused f w =
      let k = left_is d x at least i.inside (fault f) (is-one-fault (one_from d x at least) f (answered d x.delimited x.left x.stop at least r e i.inside ∙ w)) in
      rw (seen-fault tag (elements_in d x) f (i.first.same ∙ rw k)) refl

  pub seek-end : (next : ℕ) → r ≡ Ok (one.End next) → SoughtIn d tag tag' (elements_in d x) (Ok (record { first = p; second = q; next = next }))
  unfolding by_one
  seek-end next w =
      let k = left_is d x at least i.inside (read ended next) (is-one-end (one_from d x at least) next (answered d x.delimited x.left x.stop at least r e i.inside ∙ w)) in
      seen_read d tag tag' i.first.found i.second.found (elements_in d x) next p q i.first.placed i.second.placed
      (i.first.same ∙ rw k (seen_none tag i.first.found next))
      (i.second.same ∙ rw k (seen_none tag' i.second.found next))

  module _ (here vr start end next : ℕ) (w : r ≡ Ok (one.Element here vr start end next)) where
    it : IsElement (one_from d x at least) here vr start end next
    it = one_found d x.delimited x.left x.stop at least r e i.inside here vr start end next w

    past : (at < next) × (next ≤ x.stop)
    past = one-past d x.delimited x.left x.stop at least r e i.inside here vr start end next w

    pub seek-less : x.stop - next < x.stop - at
    seek-less = let k = past in omega (arith, k)

    pub seek-again : (here-at p' q' : Place) → Lies d x → here-at ≡ place_by x vr start end next → p' ≡ or_here p tag here here-at
        → q' ≡ or_here q tag' here here-at → SeekLoop d x tag tag' next (here + 1) p' q'
    seek-again here-at p' q' l w' y y' =
        let k = it in
        let there = placed_at d x at least l.inside k.what vr start end next here-at k.is k.letters k.starts k.ends w' in
        rw (y, y', ← k.tagged) record {
          inside = past.1;
          first = tag-again d x at least k.what next k.is here-at there tag p i.inside i.first;
          second = tag-again d x at least k.what next k.is here-at there tag' q i.inside i.second;
        }

-- ---- an extent that does not lie inside the data is refused, before anything is read
pub seek-outside : (d : List ℕ) (x : Extent) (r : Result (Unit {0}) Answer) (f : Answer) (tag tag' : ℕ) → r ≡ test_by (outside_answer d x) → r ≡ Err f → SoughtIn d tag tag' (elements_in d x) (Err f)
seek-outside d x r f tag tag' e q = rw (outside-fault d x r e f q) refl
