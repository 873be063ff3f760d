-- What the walk over one element answers, and what it says of the reading. Assumes nothing.
use Rattle.std.proofs.Common.{if◌then◌else◌}
use Prim.Native.Nat.{ℕ, ◌+◌, ◌-◌, ◌≤◌}
use mathlib.Core.Path.{◌≡◌, sym, ap, ◌∙◌, subst}
use mathlib.Core.Bool.{Bool, true, false, true≢false}
use mathlib.Core.List.{List, []}
use native.Mathlib.Omega.{arith}
use lib.ListN.{length}
use lib.Seq.{sets}
use Rattle.std.specs.Prelude.{Result, Ok, Err}
use Rattle.answer.specs.declared.Answer.{Answer}
use Rattle.dataset.specs.Tree.{Element, Elements, and, tag_of}
use Rattle.dataset.specs.Reading.{Reading, fault, read, ◌>>=◌, One, ended, element, explicit, by_one, elements_at, one_at}
use Rattle.dataset.proofs.Laws.Reading.Unfolding.{elements-by}
use Rattle.dataset.proofs.Laws.Reading.Guarantees.{holds_read, OneIs, ElementIn, one-read}
use Rattle.stream.specs.Stream.{stream_of}
use Rattle.stream.specs.UN.{is_un, holds_un}
use Rattle.stream.specs.Inner.Writer.{one_stream, one_walked, Leaves, Walk}
use Rattle.stream.specs.declared.writer.OneWritten.{OneWritten}
use Rattle.stream.specs.declared.writer.OneWritten.TheVariants as one
use Rattle.stream.proofs.Laws.Writer.StreamLength.{element-length}

is-fault : (kept : ℕ → Bool) (p : Reading One) (d : List ℕ) (to : ℕ) (f : Answer) → one_walked kept p d to ≡ Err f → p ≡ fault f
unfolding one_walked
is-fault kept (fault g) d to f e = let q : g ≡ f = cc in ap fault q
is-fault kept (read ended n) d to f e = absurd (true≢false (cc))
is-fault kept (read (element x) n) d to f e = absurd (true≢false (cc))

is-end : (kept : ℕ → Bool) (p : Reading One) (d : List ℕ) (to next : ℕ) → one_walked kept p d to ≡ Ok (one.End next) → p ≡ read ended next
unfolding one_walked
is-end kept (fault g) d to next e = absurd (true≢false (cc))
is-end kept (read ended n) d to next e = let q : n ≡ next = cc in ap (read ended) q
is-end kept (read (element x) n) d to next e = absurd (true≢false (cc))

pub record IsElement (kept : ℕ → Bool) (p : Reading One) (d : List ℕ) (to tag : ℕ) (unknown holds : Bool) (next past : ℕ) : Type 0 where
  pub what : Element
  pub is : p ≡ read (element what) next
  pub tagged : tag_of what ≡ tag
  pub unknowns : is_un what ≡ unknown
  pub holding : holds_un what ≡ holds
  pub passes : past ≡ to + length (one_stream kept (element what) d)

is-element : (kept : ℕ → Bool) (p : Reading One) (d : List ℕ) (to tag : ℕ) (unknown holds : Bool) (next past : ℕ)
    → one_walked kept p d to ≡ Ok (one.Element tag unknown holds next past) → IsElement kept p d to tag unknown holds next past
unfolding one_walked
is-element kept (fault g) d to tag unknown holds next past e = absurd (true≢false (cc))
is-element kept (read ended n) d to tag unknown holds next past e = absurd (true≢false (cc))
is-element kept (read (element x) n) d to tag unknown holds next past e =
    let q : n ≡ next = cc in
    record { what = x; is = ap (read (element x)) q; tagged = cc; unknowns = cc; holding = cc; passes = cc }

one-length : (kept : ℕ → Bool) (e : Element) (d : List ℕ) (n : ℕ) → length (stream_of e d) ≤ n → length (one_stream kept (element e) d) ≤ n
unfolding one_stream
one-length kept e d n h = go (kept (tag_of e))
  where
    go : (b : Bool) → length (if b then stream_of e d else []) ≤ n
    go true = h
    go false = omega arith

by-element : (elements : ℕ → ℕ → Reading Elements) (e : Element) (next tag : ℕ) → tag_of e ≡ tag
    → (read (element e) next >>= by_one elements) ≡ (elements next (tag + 1) >>= λ x. read (and e x.0) x.1)
unfolding by_one
by-element elements e next tag t = rw t

-- r is what the walk answers in an element's place, and ys what it leaves
module _ (kept : ℕ → Bool) (d : List ℕ) (delimited : Bool) (left stop at least to : ℕ) (r : Result OneWritten Answer) (xs ys : List ℕ) (h : at ≤ stop)
    (w : Walk (one_walked kept) (one_stream kept) (one_at explicit d delimited left stop at least) d to r xs ys) where
  pub one-fault : (f : Answer) → r ≡ Err f → elements_at explicit d delimited left stop at least ≡ fault f
  one-fault f q = elements-by d delimited left stop at least h (fault f) (is-fault kept (one_at explicit d delimited left stop at least) d to f (sym w.answers ∙ q))

  module _ (next : ℕ) (q : r ≡ Ok (one.End next)) where
    ended_here : one_at explicit d delimited left stop at least ≡ read ended next
    ended_here = is-end kept (one_at explicit d delimited left stop at least) d to next (sym w.answers ∙ q)

    pub one_end : elements_at explicit d delimited left stop at least ≡ (read ended next >>= by_one (elements_at explicit d delimited left stop))
    one_end = elements-by d delimited left stop at least h (read ended next) ended_here

    pub end-output : ys ≡ xs
    unfolding Leaves one_stream
    end-output = subst (λ (p : Reading One). Leaves (one_stream kept) p d to xs ys) ended_here w.output

  module _ (tag : ℕ) (unknown holds : Bool) (next past : ℕ) (q : r ≡ Ok (one.Element tag unknown holds next past)) where
    pub one_found : IsElement kept (one_at explicit d delimited left stop at least) d to tag unknown holds next past
    one_found = is-element kept (one_at explicit d delimited left stop at least) d to tag unknown holds next past (sym w.answers ∙ q)

    pub one-next : elements_at explicit d delimited left stop at least
        ≡ (elements_at explicit d delimited left stop next (tag + 1) >>= λ x. read (and one_found.what x.0) x.1)
    one-next =
        elements-by d delimited left stop at least h (read (element one_found.what) next) one_found.is
        ∙ by-element (elements_at explicit d delimited left stop) one_found.what next tag one_found.tagged

    pub one-output : ys ≡ sets xs to (one_stream kept (element one_found.what) d)
    unfolding Leaves
    one-output = subst (λ (p : Reading One). Leaves (one_stream kept) p d to xs ys) one_found.is w.output

    pub one_lies : stop ≤ length d → ElementIn d left stop least at one_found.what next
    one_lies l = holds_read (OneIs d delimited left stop least at) (one_at explicit d delimited left stop at least) (element one_found.what) next (one-read d left stop at l delimited least) one_found.is

    pub one_below : stop ≤ length d → past ≤ to + (next - at)
    one_below l =
        let k = element-length one_found.what d left at next (one_lies l).tree in
        let m = one-length kept one_found.what d (next - at) k.1 in
        omega (arith, one_found.passes)
