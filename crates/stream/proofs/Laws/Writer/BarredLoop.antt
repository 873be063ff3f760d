-- What one turn of the loop of `write_elements` does, with the facts of the place as premises. Assumes nothing.
use Rattle.std.proofs.Common.{if◌then◌else◌}
use Prim.Native.Nat.{ℕ, ◌+◌}
use mathlib.Core.Path.{◌≡◌, refl, sym}
use mathlib.Core.Bool.{Bool, true, false, not, ◌||◌}
use mathlib.Core.List.{List, [], ◌++◌}
use Rattle.std.specs.Prelude.{Ok}
use Rattle.dataset.specs.Tree.{Element, and, tag_of}
use Rattle.dataset.specs.Reading.{element}
use Rattle.dataset.specs.Place.{Lies}
use Rattle.dataset.specs.declared.extent.Extent.{Extent}
use Rattle.stream.specs.TagList.{barred, unless_barred}
use Rattle.stream.specs.Stream.{stream_of, elements_stream}
use Rattle.stream.specs.UN.{is_un, holds_un, elements_hold_un}
use Rattle.stream.specs.Inner.Keep.{keeps}
use Rattle.stream.specs.Inner.Writer.{one_stream, OneWalk, ElementsWalk}
use Rattle.stream.specs.declared.keep.Keep.TheVariants as keep
use Rattle.stream.specs.declared.writer.OneWritten.{OneWritten}
use Rattle.stream.specs.declared.writer.OneWritten.TheVariants as one
use Rattle.stream.proofs.Laws.Writer.ElementsLoop.{Loop, loop-end, found_here, loop-again}
use Rattle.stream.proofs.Laws.Writer.Walks.{Front, or_assoc}

element-front : (d : List ℕ) (e : Element) → Front elements_hold_un elements_stream d (and e) (one_stream (keeps keep.Unbarred) (element e) d) (is_un e || holds_un e)
unfolding elements_stream elements_hold_un one_stream
element-front d e = record { streams = λ es. go (barred (tag_of e)) (elements_stream es d); finds = λ es. sym (or_assoc (is_un e) (holds_un e) (elements_hold_un es)) }
  where
    go : (b : Bool) (rest : List ℕ) → unless_barred b (λ more. stream_of e d ++ more) rest ≡ (if not b then stream_of e d else []) ++ rest
    go true rest = refl
    go false rest = refl

found_front : (d : List ℕ) (e : Element) (unknown holds : Bool) → is_un e ≡ unknown → holds_un e ≡ holds
    → Front elements_hold_un elements_stream d (and e) (one_stream (keeps keep.Unbarred) (element e) d) (unknown || holds)
found_front d e unknown holds p q = rw (← p, ← q) (element-front d e)

abbrev pub ElementsLoop : (d : List ℕ) (x : Extent) (xs₀ : List ℕ) (to₀ : ℕ) (xs : List ℕ) (at least : ℕ) (found : Bool) (to : ℕ) → Type 0
ElementsLoop d x xs₀ to₀ xs at least found to = Loop elements_hold_un elements_stream d x xs₀ to₀ xs at least found to

-- r is what the walk gives in an element's place, and ys what it leaves
module _ (d : List ℕ) (x : Extent) (xs₀ : List ℕ) (to₀ : ℕ) (xs : List ℕ) (at least : ℕ) (found : Bool) (to : ℕ) (ys : List ℕ)
    (i : ElementsLoop d x xs₀ to₀ xs at least found to) (r : OneWritten) (w : OneWalk keep.Unbarred d x.delimited x.left x.stop at least to (Ok r) xs ys) where
  pub elements-end : (next : ℕ) → r ≡ one.End next → ElementsWalk d x to₀ (Ok (record { holds_un = found; next = next; to = to })) xs₀ ys
  unfolding elements_stream elements_hold_un
  elements-end next q = loop-end elements_hold_un elements_stream d x xs₀ to₀ xs at least found to keep.Unbarred ys i r w refl refl next q

  pub elements-again : (tag : ℕ) (unknown holds : Bool) (next past : ℕ) → r ≡ one.Element tag unknown holds next past → Lies d x
      → ElementsLoop d x xs₀ to₀ ys next (tag + 1) (found || (unknown || holds)) past
  elements-again tag unknown holds next past q l =
      let e = found_here elements_hold_un elements_stream d x xs₀ to₀ xs at least found to keep.Unbarred ys i r w tag unknown holds next past q l in
      loop-again elements_hold_un elements_stream d x xs₀ to₀ xs at least found to keep.Unbarred ys i r w tag unknown holds next past q l
      (unknown || holds) (found_front d e.what unknown holds e.unknowns e.holding)
