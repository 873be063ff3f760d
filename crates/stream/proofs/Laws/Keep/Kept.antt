-- Which elements are kept: the arms of `keeps_header`. Assumes nothing.
use Prim.Native.Nat.{ℕ}
use mathlib.Core.Path.{◌≡◌}
use mathlib.Core.Logic.{◌⊎◌, inl, inr}
use mathlib.Core.Bool.{Bool}
use Rattle.std.specs.Prelude.{Ok}
use Rattle.dataset.specs.Header.{element_case}
use Rattle.dataset.specs.declared.header.ElementHeader.{ElementHeader}
use Rattle.dataset.specs.declared.header.ElementHeader.TheVariants as header
use Rattle.stream.specs.Inner.Keep.{keeps, keeps_header}
use Rattle.stream.specs.declared.keep.Keep.{Keep}

-- an element, by the three headers that an element has
pub element-kept : (k : Keep) (h : ElementHeader) (tag : ℕ) (b : Bool) → b ≡ keeps k tag
    → ((vr : ℕ) × (start : ℕ) × (end : ℕ) × h ≡ header.Value tag vr start end)
    ⊎ (((start : ℕ) × (end : ℕ) × (delimited : Bool) × h ≡ header.Sequence tag start end delimited) ⊎ ((start : ℕ) × h ≡ header.Fragments tag start))
    → b ≡ keeps_header k (element_case (Ok h))
element-kept k h tag b q (inl (vr, start, end, e)) = rw e q
element-kept k h tag b q (inr (inl (start, end, delimited, e))) = rw e q
element-kept k h tag b q (inr (inr (start, e))) = rw e q
