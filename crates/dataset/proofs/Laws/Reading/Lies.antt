-- Where the parts of a tree lie, without the extents round them: what follows of `ElementsFill` (specs/Order.antt) and what later proofs
-- build on. Assumes nothing.
use Prim.Native.Nat.{ℕ, ◌+◌, ◌-◌, ◌%◌, ◌≤◌, ◌<◌}
use mathlib.Core.Path.{◌≡◌}
use mathlib.Core.List.{List, [], ◌∷◌}
use lib.ListN.{length}
use Rattle.dataset.specs.Bytes.{tag_at}
use Rattle.dataset.specs.Vr.{OB, SQ}
use Rattle.dataset.specs.Tags.{item_tag}
use Rattle.dataset.specs.Reading.{deeper}
use Rattle.dataset.specs.Tree.{Span, Element, value, sequence, fragments, Elements, none, and, Items, last, item, tag_of}
use Rattle.dataset.specs.Order.{ValueAt, NestAt}

-- the end of a data set, of items or of fragments: nothing, or a delimiter
pub record Ends (d : List ℕ) (at next : ℕ) : Type 0 where
  pub order : at ≤ next
  pub inside : next ≤ length d
  pub even : (next - at) % 2 ≡ 0

-- a value without its closing delimiter lies before what follows it
pub record Closes (span : Span) (next : ℕ) : Type 0 where
  pub order : span.start ≤ span.end
  pub inside : span.end ≤ next

-- fragments, each after the one before it, from `at` to what follows them at `next`
unfoldable pub FragmentsLie : List Span → List ℕ → (at next : ℕ) → Type 0
FragmentsLie [] d at next = Ends d at next
FragmentsLie (s ∷ ss) d at next =
    (tag_at d at ≡ item_tag) × (s.start ≡ at + 8) × (s.start ≤ s.end) × ((s.end - s.start) % 2 ≡ 0) × FragmentsLie ss d s.end next

-- An element, elements and items from `at` to what follows them at `next`, with `left` levels: each part starts where the one before it
-- ends, an element's tag is at least `least`, and the tags of one data set ascend.
unfoldable mutual
  pub ElementLies : Element → List ℕ → (left at next : ℕ) → Type 0
  ElementLies (value p tag vr span) d left at next =
      (p ≡ at) × ValueAt d (length d) at tag vr span.start span.end × (next ≡ span.end)
  ElementLies (sequence p tag span items) d left at next =
      (p ≡ at) × NestAt d (length d) at tag SQ span.start × Closes span next × (0 < left) × ItemsLie items d left span.start next
  ElementLies (fragments p tag span parts) d left at next =
      (p ≡ at) × NestAt d (length d) at tag OB span.start × Closes span next × FragmentsLie parts d span.start next

  pub ElementsLie : Elements → List ℕ → (left least at next : ℕ) → Type 0
  ElementsLie none d left least at next = Ends d at next
  ElementsLie (and e rest) d left least at next =
      (mid : ℕ) × (least ≤ tag_of e) × ElementLies e d left at mid × ElementsLie rest d left (tag_of e + 1) mid next

  pub ItemsLie : Items → List ℕ → (left at next : ℕ) → Type 0
  ItemsLie last d left at next = Ends d at next
  ItemsLie (item p elements rest) d left at next =
      (mid : ℕ) × (p ≡ at) × (tag_at d at ≡ item_tag) × ElementsLie elements d (deeper left) 0 (at + 8) mid × ItemsLie rest d left mid next
