-- What one turn of the loop of `write_own` does, with the facts of the place as premises. Assumes nothing.
use Prim.Native.Nat.{ℕ, ◌+◌}
use mathlib.Core.Path.{◌≡◌, refl, ap, ◌∙◌}
use mathlib.Core.Bool.{Bool, true, false}
use mathlib.Core.List.{List, ◌++◌}
use borrow.Author.Tests.{eq-eqb}
use lib.ListN.{length}
use Rattle.std.specs.Prelude.{Ok}
use Rattle.dataset.specs.Tree.{Element, Elements, and, tag_of}
use Rattle.dataset.specs.Reading.{Reading, One, element}
use Rattle.dataset.specs.Place.{Lies}
use Rattle.dataset.specs.declared.extent.Extent.{Extent}
use Rattle.stream.specs.Stream.{elements_stream}
use Rattle.stream.specs.UN.{is_un, holds_un}
use Rattle.stream.specs.Own.{left_out, own}
use Rattle.stream.specs.Inner.Keep.{keeps}
use Rattle.stream.specs.Inner.Writer.{one_stream, one_walked, OneWalk, holds_none}
use Rattle.stream.specs.Inner.Own.{own_stream, own_keep, OwnWalk}
use Rattle.stream.specs.declared.keep.Keep.{Keep}
use Rattle.stream.specs.declared.keep.Keep.TheVariants as keep
use Rattle.stream.specs.declared.writer.OneWritten.{OneWritten}
use Rattle.stream.specs.declared.writer.OneWritten.TheVariants as one
use Rattle.stream.proofs.Laws.Writer.ElementsLoop.{Loop, loop-end, found_here, loop-again}
use Rattle.stream.proofs.Laws.Writer.Walks.{Front}
use Rattle.stream.proofs.Laws.Own.OwnElements.{own-element}

abbrev pub OwnLoop : (d : List ℕ) (x : Extent) (xs₀ : List ℕ) (to₀ : ℕ) (xs : List ℕ) (at least to : ℕ) → Type 0
OwnLoop d x xs₀ to₀ xs at least to = Loop holds_none own_stream d x xs₀ to₀ xs at least false to

-- what is kept of an element that was seen is what the signature item's own elements begin with
own-front : (d : List ℕ) (e : Element) (next past : ℕ) (c : Keep) → c ≡ own_keep (one.Element (tag_of e) (is_un e) (holds_un e) next past)
    → Front holds_none own_stream d (and e) (one_stream (keeps c) (element e) d) false
unfolding holds_none own_stream own_keep own left_out elements_stream one_stream
own-front d e next past c q = record { streams = λ es. go (left_out e) refl es; finds = λ es. refl }
  where
    go : (b : Bool) → left_out e ≡ b → (es : Elements) → own_stream (and e es) d ≡ one_stream (keeps c) (element e) d ++ own_stream es d
    go true k es = rw (q, k)
    go false k es = rw (q, k, (own-element e k).unbarred, eq-eqb (tag_of e) (tag_of e) refl)

-- seen is what the first walk gives in an element's place, c what is kept, r what the second walk gives, and ys what it leaves
module _ (d : List ℕ) (x : Extent) (xs₀ : List ℕ) (to₀ : ℕ) (xs : List ℕ) (at least to : ℕ) (c : Keep) (ys : List ℕ) (i : OwnLoop d x xs₀ to₀ xs at least to)
    (r : OneWritten) (w : OneWalk c d x.delimited x.left x.stop at least to (Ok r) xs ys) where
  pub own-end : (next : ℕ) → r ≡ one.End next → OwnWalk d x to₀ (Ok (record { holds_un = false; next = next; to = to })) xs₀ ys
  unfolding holds_none own_stream own elements_stream
  own-end next q = loop-end holds_none own_stream d x xs₀ to₀ xs at least false to c ys i r w refl refl next q

  pub own-again : (tag : ℕ) (unknown holds : Bool) (next past : ℕ) → r ≡ one.Element tag unknown holds next past → Lies d x
      → (seen : OneWritten) (to₁ : ℕ) (xs₁ ys₁ : List ℕ) → OneWalk keep.Nothing d x.delimited x.left x.stop at least to₁ (Ok seen) xs₁ ys₁
      → c ≡ own_keep seen → OwnLoop d x xs₀ to₀ ys next (tag + 1) past
  unfolding one_walked
  own-again tag unknown holds next past q l seen to₁ xs₁ ys₁ v u =
      let e = found_here holds_none own_stream d x xs₀ to₀ xs at least false to c ys i r w tag unknown holds next past q l in
      let past₁ = to₁ + length (one_stream (keeps keep.Nothing) (element e.what) d) in
      let s = v.answers ∙ ap (λ (p : Reading One). one_walked (keeps keep.Nothing) p d to₁) e.is in
      let k : seen ≡ one.Element (tag_of e.what) (is_un e.what) (holds_un e.what) next past₁ = cc in
      loop-again holds_none own_stream d x xs₀ to₀ xs at least false to c ys i r w tag unknown holds next past q l false (own-front d e.what next past₁ c (u ∙ ap own_keep k))
