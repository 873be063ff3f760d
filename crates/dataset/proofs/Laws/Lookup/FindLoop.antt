-- What one turn of `find`'s loop does, with the facts of the place as premises; and where what is found lies. Assumes nothing.
use Rattle.std.proofs.Common.{if◌then◌else◌}
use Rattle.std.specs.Prelude.{Result, Ok, Err}
use Prim.Native.Nat.{ℕ, ◌+◌, ◌-◌, ◌≤◌, ◌<◌}
use mathlib.Core.Path.{◌≡◌, refl, sym, ◌∙◌, subst}
use mathlib.Core.Bool.{Bool, true, false}
use mathlib.Core.List.{List}
use mathlib.Core.Option.{Option, some}
use native.Mathlib.Omega.{arith}
use lib.ListN.{length}
use lib.Dec.{eqb}
use Rattle.answer.specs.declared.Answer.{Answer}
use Rattle.answer.specs.Answer as answer
use Rattle.answer.specs.Step.{test_by}
use Rattle.dataset.specs.Tree.{Element, Elements, none, and, tag_of, span_of}
use Rattle.dataset.proofs.Laws.Reading.Lies.{ElementsLie}
use Rattle.dataset.specs.Reading.{Reading, fault, read, ◌>>=◌, ended, element, explicit, by_one, elements_at, one_at, size_limit, size_answer, levels, data_set, handed_on, one_case}
use Rattle.dataset.specs.Lookup.{element_of, absent, present, found_of, found_in, found}
use Rattle.dataset.specs.Inner.Outcomes.{or_next}
use Rattle.dataset.specs.Extent.{whole_of}
use Rattle.dataset.specs.declared.extent.Extent.{Extent}
use Rattle.dataset.specs.declared.lookup.Found.{Found}
use Rattle.dataset.specs.declared.reading.OneOutcome.{OneOutcome}
use Rattle.dataset.specs.declared.reading.OneOutcome.TheVariants as one
use Rattle.dataset.proofs.Laws.Reading.Unfolding.{elements-by}
use Rattle.dataset.proofs.Laws.Reading.Outcomes.{IsElement, is-element, is-one-fault, is-one-end}
use Rattle.dataset.proofs.Laws.Reading.Loops.{answered, one-past, data-set-is, size-refused}
use Rattle.dataset.proofs.Laws.Reading.Guarantees.{data-set-read}
use Rattle.dataset.proofs.Laws.Reading.Order.{span-inside}

-- ---- what was found before, or else what is found in what is left
unfoldable pub with_before : (size tag : ℕ) → Found → Reading Elements → Found
with_before size tag f (fault g) = absent g size
with_before size tag f (read es n) = or_next f true (found_of size (element_of tag es))

abbrev pub nothing : ℕ → Found
nothing size = absent (answer.accepted 0) size

pub record FindLoop (d : List ℕ) (tag at least : ℕ) (f : Found) : Type 0 where
  pub inside : at ≤ length d
  pub same : found_in (length d) tag (elements_at explicit d false levels (length d) 0 0)
      ≡ with_before (length d) tag f (elements_at explicit d false levels (length d) at least)
  pub kept : or_next f true (nothing (length d)) ≡ f

pub present-is : (a : Answer) (start end n : ℕ) → a ≡ answer.accepted 0 → n ≡ end - start
    → ◌≡◌ {A = Found} (record { answer = a; present = true; start = start; length = n }) (present start end)
present-is a start end n e q = rw (e, q)

start-same : (size tag : ℕ) (p : Reading Elements) → found_in size tag p ≡ with_before size tag (nothing size) p
unfolding found_in with_before or_next
start-same size tag (fault g) = refl
start-same size tag (read es n) = refl

pub find-start : (d : List ℕ) (tag : ℕ) (a : Answer) (f : Found) → a ≡ answer.accepted 0 → f ≡ absent a (length d) → FindLoop d tag 0 0 f
unfolding or_next
find-start d tag a f e g =
    let h : f ≡ nothing (length d) = g ∙ rw e in
    rw h record { inside = omega arith; same = start-same (length d) tag (elements_at explicit d false levels (length d) 0 0); kept = refl }

-- ---- one element more, in front of what is left
module _ (f g : Found) (y : g.present ≡ true) where
  kept_next : (hit : Bool) (o : Found) → or_next f true o ≡ f → or_next (or_next f hit g) true o ≡ or_next f hit g
  unfolding or_next
  kept_next hit o k = go f.present hit refl
    where
      go : (b h : Bool) → f.present ≡ b → or_next (if b then f else if h then g else f) true o ≡ (if b then f else if h then g else f)
      go true h e = k
      go false true e = rw y
      go false false e = k

  front : (hit : Bool) (o : Found) → or_next f true (if hit then g else o) ≡ or_next (or_next f hit g) true o
  unfolding or_next
  front hit o = go f.present hit refl
    where
      go : (b h : Bool) → f.present ≡ b → (if b then f else if h then g else o) ≡ or_next (if b then f else if h then g else f) true o
      go true h e = rw e
      go false true e = rw y
      go false false e = rw e

found-if : (size : ℕ) (hit : Bool) (e : Element) (o : Option Element)
    → found_of size (if hit then some e else o) ≡ (if hit then present (span_of e).start (span_of e).end else found_of size o)
unfolding found_of
found-if size true e o = refl
found-if size false e o = refl

before-front : (size tag : ℕ) (f : Found) (e : Element) (p : Reading Elements) (k : Elements × ℕ → Reading Elements)
    → ((es : Elements) (n : ℕ) → k (es, n) ≡ read (and e es) n)
    → with_before size tag f (p >>= k) ≡ with_before size tag (or_next f (eqb (tag_of e) tag) (present (span_of e).start (span_of e).end)) p
unfolding with_before element_of
before-front size tag f e (fault r) k g = refl
before-front size tag f e (read es n) k g =
    rw (g es n, found-if size (eqb (tag_of e) tag) e (element_of tag es))
    (front f (present (span_of e).start (span_of e).end) refl (eqb (tag_of e) tag) (found_of size (element_of tag es)))

-- ---- a turn of the loop: r is what the reader of one element answers
module _ (d : List ℕ) (x : Extent) (w : x ≡ whole_of (length d)) (tag at least : ℕ) (r : Result OneOutcome Answer)
    (c : one_case r ≡ handed_on (one_at explicit d x.delimited x.left x.stop at least)) (f : Found) (i : FindLoop d tag at least f) where
  e : one_case r ≡ handed_on (one_at explicit d false levels (length d) at least)
  e = rw w at c

  so : length d ≤ size_limit → (y : Found) → with_before (length d) tag f (elements_at explicit d false levels (length d) at least) ≡ y → found d tag ≡ y
  unfolding found
  so h y q = rw (data-set-is d h) (i.same ∙ q)

  pub find-refused : (g : Answer) (y : Found) → length d ≤ size_limit → r ≡ Err g → y ≡ absent g (length d) → y ≡ found d tag
  unfolding with_before
  find-refused g y h q z =
      z ∙ sym (so h (absent g (length d)) (rw (elements-by d false levels (length d) at least i.inside (fault g) (is-one-fault (one_at explicit d false levels (length d) at least) g (answered d false levels (length d) at least r e i.inside ∙ q)))))

  pub find-end : (next : ℕ) → length d ≤ size_limit → r ≡ Ok (one.End next) → f ≡ found d tag
  unfolding by_one with_before element_of found_of
  find-end next h q =
      sym (so h f (rw (elements-by d false levels (length d) at least i.inside (read ended next) (is-one-end (one_at explicit d false levels (length d) at least) next (answered d false levels (length d) at least r e i.inside ∙ q))) i.kept))

  after : (k : Element) (next : ℕ) → one_at explicit d false levels (length d) at least ≡ read (element k) next
      → with_before (length d) tag f (elements_at explicit d false levels (length d) at least)
      ≡ with_before (length d) tag (or_next f (eqb (tag_of k) tag) (present (span_of k).start (span_of k).end)) (elements_at explicit d false levels (length d) next (tag_of k + 1))
  unfolding by_one
  after k next q =
      rw (elements-by d false levels (length d) at least i.inside (read (element k) next) q)
      (before-front (length d) tag f k (elements_at explicit d false levels (length d) next (tag_of k + 1)) _ λ es n. refl)

  module _ (here vr start end next : ℕ) (q : r ≡ Ok (one.Element here vr start end next)) where
    it : IsElement (one_at explicit d false levels (length d) at least) here vr start end next
    it = is-element (one_at explicit d false levels (length d) at least) here vr start end next (answered d false levels (length d) at least r e i.inside ∙ q)

    pub find-less : length d - next < length d - at
    find-less = let k = one-past d false levels (length d) at least r e i.inside here vr start end next q in omega (arith, k)

    pub find-again : (y : Found) → y ≡ or_next f (eqb here tag) (present start end) → FindLoop d tag next (here + 1) y
    find-again y z =
        rw z record {
          inside = (one-past d false levels (length d) at least r e i.inside here vr start end next q).1;
          same = i.same ∙ (after it.what next it.is ∙ rw (it.tagged, it.starts, it.ends));
          kept = kept_next f (present start end) refl (eqb here tag) (nothing (length d)) i.kept;
        }

pub find-over : (d : List ℕ) (tag : ℕ) (r : Result (Unit {0}) Answer) (g : Answer) (x : Found) → r ≡ test_by (size_answer d) → r ≡ Err g → x ≡ absent g (length d) → x ≡ found d tag
unfolding found found_in
find-over d tag r g x e q w = w ∙ rw (size-refused d r e g q)

-- ---- what is found lies in the data set
Inside : List ℕ → Found → Type 0
Inside d f = f.start + f.length ≤ length d

find-inside : (es : Elements) (tag : ℕ) (d : List ℕ) (left least at next : ℕ) → ElementsLie es d left least at next → Inside d (found_of (length d) (element_of tag es))
unfolding ElementsLie element_of Inside found_of
find-inside none tag d left least at next r = omega arith
find-inside (and e es) tag d left least at next r =
    let s = span-inside e d left at r.0 r.2 in
    go (eqb (tag_of e) tag) (omega (arith, s.order, s.inside)) (find-inside es tag d left (tag_of e + 1) r.0 next r.3)
  where
    go : (b : Bool) → Inside d (present (span_of e).start (span_of e).end) → Inside d (found_of (length d) (element_of tag es))
        → Inside d (found_of (length d) (if b then some e else element_of tag es))
    go true x y = x
    go false x y = y

pub found_inside : (d : List ℕ) (tag : ℕ) (f : Found) → f ≡ found d tag → f.start + f.length ≤ length d
unfolding found found_in Inside
found_inside d tag f e = subst (λ (z : Found). z.start + z.length ≤ length d) (sym e) (go (data_set d) refl)
  where
    go : (p : Reading Elements) → data_set d ≡ p → Inside d (found_in (length d) tag p)
    go (fault g) q = omega arith
    go (read es n) q = find-inside es tag d levels 0 0 n (data-set-read d es n q).tree
