-- What the readers answer, and what it says of the reading: the laws of `outcome_of` and `one_outcome_of`. Assumes nothing.
use Rattle.std.specs.Prelude.{Result, Ok, Err}
use Prim.Native.Nat.{ℕ, suc, ◌-◌, ◌≤◌}
use mathlib.Core.Path.{◌≡◌, refl, sym, ap, ap₂}
use mathlib.Core.Bool.{Bool, true, true≢false}
use mathlib.Core.List.{List}
use native.Mathlib.Omega.{arith}
use Rattle.answer.specs.declared.Answer.{Answer}
use Rattle.dataset.specs.Header.{fault_at, outside, element_at}
use Rattle.dataset.specs.Tree.{Span, span, Element, tag_of, vr_of, span_of}
use Rattle.dataset.specs.Reading.{Reading, fault, read, ◌>>=◌, One, ended, element, explicit, by_header, elements_by, fragments_at, elements_at, items_at, Outline, handed_on, one_case}
use Rattle.dataset.specs.Inner.Outcomes.{outcome_of, one_outcome_of}
use Rattle.dataset.specs.declared.reading.OneOutcome.{OneOutcome}
use Rattle.dataset.specs.declared.reading.OneOutcome.TheVariants as one
use Rattle.dataset.proofs.Laws.Reading.Bounded.{explicit-bounded}
use Rattle.dataset.proofs.Laws.Reading.Within.{Within, fragments-within, elements-within, items-within}

-- ---- what a reader answers of one reading after another
pub last : {A B : Type 0} (p : Reading A) (k : A × ℕ → Reading B) → ((a : A) (n : ℕ) → outcome_of (k (a, n)) ≡ Ok n) → outcome_of (p >>= k) ≡ outcome_of p
last (fault f) k g = refl
last (read a n) k g = g a n

pub then_next : {A B : Type 0} (p : Reading A) (k : A × ℕ → Reading B) (n : ℕ) (r : Result ℕ Answer) → outcome_of p ≡ Ok n → ((a : A) → outcome_of (k (a, n)) ≡ r) → outcome_of (p >>= k) ≡ r
then_next (fault f) k n r e g = absurd (true≢false (cc))
then_next (read a m) k n r e g = let q : m ≡ n = cc in rw q (g a)

pub is-fault : {A : Type 0} (p : Reading A) (f : Answer) → outcome_of p ≡ Err f → p ≡ fault f
is-fault (fault g) f e = let q : g ≡ f = cc in ap fault q
is-fault (read a m) f e = absurd (true≢false (cc))

pub record IsRead {A : Type 0} (p : Reading A) (n : ℕ) : Type 0 where
  pub what : A
  pub is : p ≡ read what n

pub is_read : {A : Type 0} (p : Reading A) (n : ℕ) → outcome_of p ≡ Ok n → IsRead p n
is_read (fault g) n e = absurd (true≢false (cc))
is_read (read a m) n e = let q : m ≡ n = cc in record { what = a; is = ap (read a) q }

pub next-within : {A : Type 0} (lo hi n : ℕ) (p : Reading A) → Within lo hi p → outcome_of p ≡ Ok n → (lo ≤ n) × (n ≤ hi)
next-within lo hi n (fault f) w e = absurd (true≢false (cc))
next-within lo hi n (read a m) w e = let q : m ≡ n = cc in rw (← q) w

module _ (d : List ℕ) (left stop at n : ℕ) (h : at ≤ stop) where
  pub fragments-next : Ok n ≡ outcome_of (fragments_at explicit d left stop at) → (at ≤ n) × (n ≤ stop)
  unfolding fragments_at
  fragments-next e =
      next-within at stop n (fragments_at explicit d left stop at)
      (fragments-within explicit explicit-bounded (suc (stop - at)) d left stop at h (omega arith)) (sym e)

  pub items-next : (delimited : Bool) → Ok n ≡ outcome_of (items_at explicit d delimited left stop at) → (at ≤ n) × (n ≤ stop)
  unfolding items_at
  items-next delimited e =
      next-within at stop n (items_at explicit d delimited left stop at)
      (items-within explicit explicit-bounded (suc (stop - at)) d delimited left stop at h (omega arith)) (sym e)

  pub elements-next : (delimited : Bool) (least : ℕ) → Ok n ≡ outcome_of (elements_at explicit d delimited left stop at least) → (at ≤ n) × (n ≤ stop)
  unfolding elements_at
  elements-next delimited least e =
      next-within at stop n (elements_at explicit d delimited left stop at least)
      (elements-within explicit explicit-bounded (suc (stop - at)) d delimited left stop at least h (omega arith)) (sym e)

-- ---- what is read in an element's place

-- the reader's answer has the case and the values of what is handed on, and no other answer has
pub handed-on : (p : Reading One) (r : Result OneOutcome Answer) → r ≡ one_outcome_of p → one_case r ≡ handed_on p
handed-on (fault f) r e = rw e
handed-on (read ended n) r e = rw e
handed-on (read (element x) n) r e = rw e

abbrev outline : (tag vr : ℕ) (span : Span) → Outline
outline tag vr span = record { tag = tag; vr = vr; span = span }

pub handed-back : (p : Reading One) (r : Result OneOutcome Answer) → one_case r ≡ handed_on p → r ≡ one_outcome_of p
handed-back (fault f) (Err g) e = let q : g ≡ f = cc in ap Err q
handed-back (fault f) (Ok (one.End m)) e = absurd (true≢false (cc))
handed-back (fault f) (Ok (one.Element tag vr start end m)) e = absurd (true≢false (cc))
handed-back (read ended n) (Err g) e = absurd (true≢false (cc))
handed-back (read ended n) (Ok (one.End m)) e = let q : m ≡ n = cc in ap (λ (k : ℕ). Ok (one.End k)) q
handed-back (read ended n) (Ok (one.Element tag vr start end m)) e = absurd (true≢false (cc))
handed-back (read (element x) n) (Err g) e = absurd (true≢false (cc))
handed-back (read (element x) n) (Ok (one.End m)) e = absurd (true≢false (cc))
handed-back (read (element x) n) (Ok (one.Element tag vr start end m)) e =
    let o : outline tag vr (span start end) ≡ outline (tag_of x) (vr_of x) (span_of x) = cc in
    let q : m ≡ n = cc in
    ap₂ (λ (a : Outline) (k : ℕ). Ok (one.Element a.tag a.vr a.span.start a.span.end k)) o q

pub is-one-fault : (p : Reading One) (f : Answer) → one_outcome_of p ≡ Err f → p ≡ fault f
is-one-fault (fault g) f e = let q : g ≡ f = cc in ap fault q
is-one-fault (read ended n) f e = absurd (true≢false (cc))
is-one-fault (read (element x) n) f e = absurd (true≢false (cc))

pub is-one-end : (p : Reading One) (n : ℕ) → one_outcome_of p ≡ Ok (one.End n) → p ≡ read ended n
is-one-end (fault g) n e = absurd (true≢false (cc))
is-one-end (read ended m) n e = let q : m ≡ n = cc in ap (read ended) q
is-one-end (read (element x) m) n e = absurd (true≢false (cc))

pub record IsElement (p : Reading One) (tag vr start end next : ℕ) : Type 0 where
  pub what : Element
  pub is : p ≡ read (element what) next
  pub tagged : tag_of what ≡ tag
  pub letters : vr_of what ≡ vr
  pub starts : (span_of what).start ≡ start
  pub ends : (span_of what).end ≡ end

pub is-element : (p : Reading One) (tag vr start end next : ℕ) → one_outcome_of p ≡ Ok (one.Element tag vr start end next) → IsElement p tag vr start end next
is-element (fault g) tag vr start end next e = absurd (true≢false (cc))
is-element (read ended m) tag vr start end next e = absurd (true≢false (cc))
is-element (read (element x) m) tag vr start end next e =
    let q : m ≡ next = cc in record { what = x; is = ap (read (element x)) q; tagged = cc; letters = cc; starts = cc; ends = cc }

-- ---- an extent that does not lie inside the data: its first header refuses it
pub outside-refused : (d : List ℕ) (delimited : Bool) (left stop at least : ℕ) → outside d stop at ≡ true → elements_at explicit d delimited left stop at least ≡ fault (fault_at 2 at)
unfolding elements_at elements_by element_at by_header
outside-refused d delimited left stop at least e = rw e
