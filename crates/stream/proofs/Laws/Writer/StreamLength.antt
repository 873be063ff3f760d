-- A stream is never longer than what it is read from, but for a closing delimiter that the input need not have. Assumes nothing.
use Prim.Native.Nat.{ℕ, ◌+◌, ◌-◌, ◌≤◌}
use mathlib.Core.Bool.{Bool, true, false}
use mathlib.Core.List.{List, [], ◌∷◌, ◌++◌}
use native.Mathlib.Omega.{arith}
use lib.ListN.{length, length-append, length-take}
use Rattle.slices.specs.Lists.{between}
use Rattle.dataset.specs.Reading.{deeper}
use Rattle.dataset.specs.Tree.{Span, Element, value, sequence, fragments, Elements, none, and, Items, last, item, tag_of}
use Rattle.dataset.proofs.Laws.Header.HeaderFacts.{value-start}
use Rattle.dataset.proofs.Laws.Reading.Lies.{FragmentsLie, ElementLies, ElementsLie, ItemsLie}
use Rattle.stream.specs.TagList.{barred, unless_barred}
use Rattle.stream.specs.Stream.{item_tag_bytes, fragments_stream, stream_of, elements_stream, items_stream}

between-most : (d : List ℕ) (from to : ℕ) → length (between d from to) ≤ to - from
unfolding between
between-most d from to = simp length-take (omega arith)

two : (xs ys : List ℕ) (m n : ℕ) → length xs ≤ m → length ys ≤ n → length (xs ++ ys) ≤ m + n
two xs ys m n h k = rw (length-append xs ys) (omega arith)

kept-most : (b : Bool) (xs ys : List ℕ) (m n : ℕ) → length xs ≤ m → length ys ≤ n → length (unless_barred b (λ more. xs ++ more) ys) ≤ m + n
kept-most true xs ys m n h k = omega arith
kept-most false xs ys m n h k = two xs ys m n h k

pub parts-length : (ss : List Span) (d : List ℕ) (at next : ℕ) → FragmentsLie ss d at next → (at ≤ next) × (length (fragments_stream ss d) ≤ next - at + 4)
unfolding FragmentsLie fragments_stream
parts-length [] d at next r = (r.order, omega arith)
parts-length (s ∷ ss) d at next r =
    let k = parts-length ss d s.end next r.4 in
    let z = two item_tag_bytes (between d s.start s.end ++ fragments_stream ss d) 4 (s.end - s.start + (next - s.end + 4)) (omega arith)
    (two (between d s.start s.end) (fragments_stream ss d) (s.end - s.start) (next - s.end + 4) (between-most d s.start s.end) k.1) in
    (omega (arith, r.1, r.2, k.0), omega (arith, r.1, r.2, k.0, z))

mutual
  unfolding ElementLies stream_of

  pub element-length : (e : Element) (d : List ℕ) (left at next : ℕ) → ElementLies e d left at next → (at ≤ next) × (length (stream_of e d) ≤ next - at)
  element-length (value p tag vr s) d left at next r =
      let z = between-most d p s.end in
      let v = r.1 in
      let h = value-start d (length d) at tag vr s.start s.end v in
      (omega (arith, v.order, r.2), omega (arith, v.order, r.0, r.2, z))
  element-length (sequence p tag s is) d left at next r =
      let k = items-length is d left s.start next r.4 in
      let z = two (between d p (p + 8)) (items_stream is d) (p + 8 - p) (next - s.start + 4) (between-most d p (p + 8)) k.1 in
      (omega (arith, r.1.starts, k.0), omega (arith, r.0, r.1.starts, k.0, z))
  element-length (fragments p tag s ss) d left at next r =
      let k = parts-length ss d s.start next r.3 in
      let z = two (between d p (p + 8)) (fragments_stream ss d) (p + 8 - p) (next - s.start + 4) (between-most d p (p + 8)) k.1 in
      (omega (arith, r.1.starts, k.0), omega (arith, r.0, r.1.starts, k.0, z))

  pub elements-length : (es : Elements) (d : List ℕ) (left floor at next : ℕ) → ElementsLie es d left floor at next → (at ≤ next) × (length (elements_stream es d) ≤ next - at)
  elements-length none d left floor at next r = (r.order, omega arith)
  elements-length (and e es) d left floor at next r =
      let h = element-length e d left at r.0 r.2 in
      let k = elements-length es d left (tag_of e + 1) r.0 next r.3 in
      let z = kept-most (barred (tag_of e)) (stream_of e d) (elements_stream es d) (r.0 - at) (next - r.0) h.1 k.1 in
      (omega (arith, h.0, k.0), omega (arith, h.0, k.0, z))

  pub items-length : (is : Items) (d : List ℕ) (left at next : ℕ) → ItemsLie is d left at next → (at ≤ next) × (length (items_stream is d) ≤ next - at + 4)
  items-length last d left at next r = (r.order, omega arith)
  items-length (item p es is) d left at next r =
      let h = elements-length es d (deeper left) 0 (at + 8) r.0 r.3 in
      let k = items-length is d left r.0 next r.4 in
      let z = two item_tag_bytes (elements_stream es d ++ items_stream is d) 4 (r.0 - (at + 8) + (next - r.0 + 4)) (omega arith)
      (two (elements_stream es d) (items_stream is d) (r.0 - (at + 8)) (next - r.0 + 4) h.1 k.1) in
      (omega (arith, h.0, k.0), omega (arith, h.0, k.0, z))
