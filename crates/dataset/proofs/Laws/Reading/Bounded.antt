-- What the recursion needs of the headers it is defined over, and that those of Explicit VR Little Endian have it. Assumes nothing.
use Prim.Native.Nat.{ℕ, ◌≤◌, ◌<◌}
use mathlib.Core.Bool.{Bool}
use mathlib.Core.List.{List}
use native.Mathlib.Omega.{arith}
use Rattle.dataset.specs.Header.{ElementHeader, ItemHeader, element_at, item_at}
use Rattle.dataset.specs.Reading.{Headers, explicit}
use Rattle.dataset.proofs.Laws.Header.HeaderFacts.{RefusedAt, ElementFacts, ItemFacts, value-start, element-facts, item-facts}

abbrev pub ElementHeaderIn : (stop at : ℕ) → ElementHeader → Type 0
ElementHeaderIn stop at (ElementHeader.refused a) = RefusedAt at a
ElementHeaderIn stop at (ElementHeader.ends next) = (at ≤ next) × (next ≤ stop)
ElementHeaderIn stop at (ElementHeader.value tag vr start end) = (at < end) × (end ≤ stop)
ElementHeaderIn stop at (ElementHeader.sequence tag start end inner) = (at < start) × (start ≤ end) × (end ≤ stop)
ElementHeaderIn stop at (ElementHeader.fragments tag start) = (at < start) × (start ≤ stop)

abbrev pub ItemHeaderIn : (stop at : ℕ) → ItemHeader → Type 0
ItemHeaderIn stop at (ItemHeader.refused a) = RefusedAt at a
ItemHeaderIn stop at (ItemHeader.ends next) = (at ≤ next) × (next ≤ stop)
ItemHeaderIn stop at (ItemHeader.item start end inner) = (at < start) × (start ≤ end) × (end ≤ stop)

pub record Bounded (h : Headers) : Type 0 where
  pub element-in : (d : List ℕ) (delimited : Bool) (left stop at least : ℕ) → ElementHeaderIn stop at (h.element d delimited left stop at least)
  pub item_in : (d : List ℕ) (in_sequence delimited : Bool) (stop at : ℕ) → ItemHeaderIn stop at (h.item d in_sequence delimited stop at)

pub explicit-bounded : Bounded explicit
explicit-bounded = record {
  element-in = λ d delimited left stop at least. from d delimited left stop at least (element_at d delimited left stop at least) (element-facts d delimited left stop at least);
  item_in = λ d in_sequence delimited stop at. from-item d in_sequence delimited stop at (item_at d in_sequence delimited stop at) (item-facts d in_sequence delimited stop at);
}
  where
    from : (d : List ℕ) (delimited : Bool) (left stop at least : ℕ) (p : ElementHeader) → ElementFacts d delimited left stop at least p → ElementHeaderIn stop at p
    from d delimited left stop at least (ElementHeader.refused a) f = f
    from d delimited left stop at least (ElementHeader.ends next) f = (f.order, f.inside)
    from d delimited left stop at least (ElementHeader.value tag vr start end) f =
        omega (arith, value-start d stop at tag vr start end f.1, f.1.order, f.1.inside)
    from d delimited left stop at least (ElementHeader.sequence tag start end inner) f = omega (arith, f.1.starts, f.2, f.3)
    from d delimited left stop at least (ElementHeader.fragments tag start) f = omega (arith, f.1.starts, f.1.inside)

    from-item : (d : List ℕ) (in_sequence delimited : Bool) (stop at : ℕ) (p : ItemHeader) → ItemFacts d in_sequence delimited stop at p → ItemHeaderIn stop at p
    from-item d in_sequence delimited stop at (ItemHeader.refused a) f = f
    from-item d in_sequence delimited stop at (ItemHeader.ends next) f = (f.order, f.inside)
    from-item d in_sequence delimited stop at (ItemHeader.item start end inner) f = omega (arith, f.0.starts, f.0.order, f.0.inside)
