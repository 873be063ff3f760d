-- What fills an extent is what is read there (specs/Order.antt): by induction on the tree, with the equations that name no fuel.
-- Assumes nothing.
use Prim.Native.Nat.{ℕ, ◌+◌, ◌≤◌}
use mathlib.Core.Path.{◌≡◌, refl, ◌∙◌}
use mathlib.Core.Bool.{Bool, true, false}
use mathlib.Core.List.{List, [], ◌∷◌}
use native.Mathlib.Omega.{arith}
use lib.ListN.{length}
use Rattle.slices.specs.Lists.{OfBytes}
use Rattle.dataset.specs.Tree.{Span, Element, value, sequence, fragments, Elements, none, and, Items, last, item, tag_of}
use Rattle.dataset.specs.Reading.{read, element, explicit, by_header, by_one, by_item, by_fragment, fragments_at, elements_at, items_at, one_at, deeper}
use Rattle.dataset.specs.Order.{FragmentsFill, ElementFills, ElementsFill, ItemsFill}
use Rattle.dataset.specs.Theorems.{FilledIsRead}
use Rattle.dataset.proofs.Laws.Reading.Bounded.{explicit-bounded}
use Rattle.dataset.proofs.Laws.Reading.Unfolding.{elements-are, items-are, fragments-are}
use Rattle.dataset.proofs.Laws.Reading.Loops.{data-set-is}
use Rattle.dataset.proofs.Laws.Reading.OneElement.{one-by}
use Rattle.dataset.proofs.Laws.Reading.Order.{extent-inside, parts_in, elements-in, items-in}
use Rattle.dataset.proofs.Laws.Header.FilledHeaders.{element-ends, value-stands, sequence-stands, fragments-stand, items-end, item-stands}

module _ (d : List ℕ) (b : OfBytes d) where
  fragments-filled : (ss : List Span) (left stop at next : ℕ) → stop ≤ length d → FragmentsFill ss d stop at next
      → fragments_at explicit d left stop at ≡ read ss next
  unfolding FragmentsFill by_fragment
  fragments-filled [] left stop at next l r =
      let k = parts_in [] d stop at next l r in
      let q = items-end d false true stop at next l r in
      rw (fragments-are explicit explicit-bounded d left stop at (omega (arith, k.inside, k.closed)), ← q)
  fragments-filled (s ∷ ss) left stop at next l r =
      let k = parts_in (s ∷ ss) d stop at next l r in
      let a = r.1 in
      let e = r.2.1 in
      let q = item-stands d false true stop at s.end false l r.0 (omega arith) (λ y. y) (rw a at r.2) in
      let j = fragments-filled ss left stop s.end next l r.3 in
      rw (fragments-are explicit explicit-bounded d left stop at (omega (arith, k.inside, k.closed)), ← q, j, ← a)

  mutual
    unfolding ElementFills by_header by_one by_item

    one-filled : (e : Element) (delimited : Bool) (left stop at least next : ℕ) → stop ≤ length d → least ≤ tag_of e → ElementFills e d left stop at next
        → one_at explicit d delimited left stop at least ≡ read (element e) next
    one-filled (value p tag vr s) delimited left stop at least next l o r =
        let q = value-stands d b delimited left stop at least tag l o vr s.start s.end r.1 in
        rw (one-by d delimited left stop at least _ q, r.0, r.2)
    one-filled (sequence p tag s is) delimited left stop at least next l o r =
        let x = extent-inside _ stop s.start r.1 r.0 r.5 in
        let q = sequence-stands d b delimited left stop at least tag l o s.start r.1 r.0 r.3 r.4 r.5 in
        let j = items-filled is r.0 left r.1 s.start next (omega arith) r.6 in
        let u = r.7 in
        rw (one-by d delimited left stop at least _ q, j, r.2, ← u)
    one-filled (fragments p tag s ss) delimited left stop at least next l o r =
        let q = fragments-stand d b delimited left stop at least tag l o s.start r.1 r.2 in
        let j = fragments-filled ss left stop s.start next l r.3 in
        let u = r.4 in
        rw (one-by d delimited left stop at least _ q, j, r.0, ← u)

    elements-filled : (es : Elements) (delimited : Bool) (left stop at least next : ℕ) → stop ≤ length d → ElementsFill es d delimited left stop at least next
        → elements_at explicit d delimited left stop at least ≡ read es next
    elements-filled none delimited left stop at least next l r =
        let k = elements-in none d delimited left stop least at next l r in
        let q = element-ends d delimited left stop at least next l r in
        rw (elements-are explicit explicit-bounded d delimited left stop at least (omega (arith, k.order, k.inside)), one-by d delimited left stop at least _ q)
    elements-filled (and e es) delimited left stop at least next l r =
        let k = elements-in (and e es) d delimited left stop least at next l r in
        let i = one-filled e delimited left stop at least r.0 l r.1 r.2 in
        let j = elements-filled es delimited left stop r.0 (tag_of e + 1) next l r.3 in
        rw (elements-are explicit explicit-bounded d delimited left stop at least (omega (arith, k.order, k.inside)), i, j)

    items-filled : (is : Items) (delimited : Bool) (left stop at next : ℕ) → stop ≤ length d → ItemsFill is d delimited left stop at next
        → items_at explicit d delimited left stop at ≡ read is next
    items-filled last delimited left stop at next l r =
        let k = items-in last d delimited left stop at next l r in
        let q = items-end d true delimited stop at next l r in
        rw (items-are explicit explicit-bounded d delimited left stop at (omega (arith, k.order, k.inside)), ← q)
    items-filled (item p es is) delimited left stop at next l r =
        let k = items-in (item p es is) d delimited left stop at next l r in
        let x = extent-inside _ stop (at + 8) r.1 r.0 r.5 in
        let m = elements-in es d r.0 (deeper left) r.1 0 (at + 8) r.2 (omega arith) r.6 in
        let q = item-stands d true delimited stop at r.1 r.0 l r.4 (omega (arith, m.order, m.inside)) (λ y. refl) r.5 in
        let i = elements-filled es r.0 (deeper left) r.1 (at + 8) 0 r.2 (omega arith) r.6 in
        let j = items-filled is delimited left stop r.2 next l r.7 in
        rw (items-are explicit explicit-bounded d delimited left stop at (omega (arith, k.order, k.inside)), ← q, i, j, r.3)

pub filled-is-read : FilledIsRead
filled-is-read d es next b s r = data-set-is d s ∙ elements-filled d b es false _ (length d) 0 0 next (omega arith) r
