-- The signature item's own elements: none is barred or holds UN, and their stream is never longer than the item. Assumes nothing.
use Rattle.std.proofs.Common.{if◌then◌else◌}
use Prim.Native.Nat.{ℕ, ◌-◌, ◌≤◌}
use mathlib.Core.Path.{◌≡◌, refl}
use mathlib.Core.Bool.{Bool, true, false, ◌||◌}
use mathlib.Core.List.{List, ◌++◌}
use native.Mathlib.Omega.{arith}
use lib.ListN.{length, length-append}
use Rattle.dataset.specs.Tree.{Element, Elements, tag_of}
use Rattle.dataset.proofs.Laws.Reading.Lies.{ElementsLie}
use Rattle.stream.specs.TagList.{barred, unless_barred}
use Rattle.stream.specs.Stream.{stream_of, elements_stream}
use Rattle.stream.specs.UN.{is_un, holds_un}
use Rattle.stream.specs.Own.{named, left_out, own}
use Rattle.slices.proofs.Laws.Bools.{neither}
use Rattle.stream.proofs.Laws.Writer.StreamLength.{elements-length}

-- an element that is not left out
pub record Own (e : Element) : Type 0 where
  pub unbarred : barred (tag_of e) ≡ false
  pub clean : holds_un e ≡ false

pub own-element : (e : Element) → left_out e ≡ false → Own e
unfolding left_out
own-element e h =
    let unnamed = (neither (named (tag_of e)) (barred (tag_of e) || (is_un e || holds_un e)) h).1 in
    let unbarred = neither (barred (tag_of e)) (is_un e || holds_un e) unnamed in
    record { unbarred = unbarred.0; clean = (neither (is_un e) (holds_un e) unbarred.1).1 }

pub own-fewer : (es : Elements) (d : List ℕ) → length (elements_stream (own es) d) ≤ length (elements_stream es d)
unfolding own elements_stream
own-fewer Elements.none d = omega arith
own-fewer (Elements.and e es) d = go (left_out e) (barred (tag_of e)) refl (own-fewer es d)
  where
    go : (b t : Bool) → barred (tag_of e) ≡ t → length (elements_stream (own es) d) ≤ length (elements_stream es d)
        → length (elements_stream (if b then own es else Elements.and e (own es)) d) ≤ length (unless_barred t (λ more. stream_of e d ++ more) (elements_stream es d))
    go true true q h = h
    go true false q h = simp length-append (omega arith)
    go false true q h = rw q h
    go false false q h = rw q (simp length-append (omega arith))

pub own-no-longer : (es : Elements) (d : List ℕ) (left floor at next : ℕ) → ElementsLie es d left floor at next → length (elements_stream (own es) d) ≤ next - at
own-no-longer es d left floor at next r = let t = elements-length es d left floor at next r in omega (arith, t.1, own-fewer es d)
