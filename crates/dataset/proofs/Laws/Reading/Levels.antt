-- The levels left: they fall from a sequence to its items, and a number above 16 counts as 16. Assumes nothing.
use Rattle.std.proofs.Common.{if◌then◌else◌}
use Prim.Native.Nat.{ℕ, zero, suc, min, ◌-◌, ◌≤◌, ◌<◌}
use mathlib.Core.Path.{◌≡◌, refl, ◌∙◌}
use mathlib.Core.Bool.{Bool, true, false}
use mathlib.Core.List.{List}
use native.Mathlib.Omega.{arith}
use lib.Dec.{ltb}
use borrow.Author.Tests.{ltb-true, ltb-false, ne_eqb}
use Rattle.dataset.specs.Bytes.{tag_at, vr_at}
use Rattle.dataset.specs.Vr.{form_of}
use Rattle.dataset.specs.Header.{ItemHeader, too_deep, value_by, long_at, by_form, vr_on_at, element_at, item_at}
use Rattle.dataset.specs.Tree.{Elements, Items, item}
use Rattle.dataset.specs.Reading.{Reading, fault, read, ◌>>=◌, explicit, by_item, fragments_by, items_by, fragments_at, items_at, one_at, levels, deeper}
use Rattle.dataset.specs.Theorems.{LevelsCount}
use Rattle.dataset.specs.declared.vr.Form.{Form}
use Rattle.dataset.specs.declared.vr.Form.TheVariants.{Short, Long, Neither}
use Rattle.dataset.proofs.Laws.Reading.Bounded.{explicit-bounded}
use Rattle.dataset.proofs.Laws.Reading.Unfolding.{fragment-same, header-same}

-- ---- what the code of `deeper` answers
pub deeper-is : (left r : ℕ) → r ≡ min left levels - 1 → r ≡ deeper left
unfolding deeper
deeper-is left r q = q ∙ go (ltb levels left) refl
  where
    go : (b : Bool) → ltb levels left ≡ b → min left levels - 1 ≡ (if b then levels else left) - 1
    go true t = let k = ltb-true levels left t in omega arith
    go false t = let k = ltb-false levels left t in omega arith

pub deeper-falls : (left : ℕ) → 0 < left → deeper left < left
unfolding deeper
deeper-falls left h = go (ltb levels left) refl
  where
    go : (b : Bool) → ltb levels left ≡ b → (if b then levels else left) - 1 < left
    go true e = let k = ltb-true levels left e in omega arith
    go false e = omega arith

-- ---- levels above 16
module _ (left : ℕ) (h : levels ≤ left) where
  same-deep : (vr : ℕ) → too_deep vr left ≡ too_deep vr levels
  unfolding too_deep
  same-deep vr = rw (ne_eqb left 0 λ e. omega arith)

  same-form : (f : Form) (d : List ℕ) (tag vr stop at : ℕ) → by_form f d tag vr left stop at ≡ by_form f d tag vr levels stop at
  unfolding by_form long_at value_by
  same-form Short d tag vr stop at = rw (same-deep vr)
  same-form Long d tag vr stop at = rw (same-deep vr)
  same-form Neither d tag vr stop at = refl

  same-header : (d : List ℕ) (delimited : Bool) (stop at least : ℕ) → element_at d delimited left stop at least ≡ element_at d delimited levels stop at least
  unfolding element_at vr_on_at
  same-header d delimited stop at least = rw (same-form (form_of (vr_at d at)) d (tag_at d at) (vr_at d at) stop at)

  same-deeper : deeper left ≡ deeper levels
  unfolding deeper
  same-deeper = go (ltb levels left) refl
    where
      go : (b : Bool) → ltb levels left ≡ b → (if b then levels else left) - 1 ≡ 15
      go true e = refl
      go false e = let k = ltb-false levels left e in omega arith

  same-fragments : (n : ℕ) (d : List ℕ) (stop at : ℕ) → fragments_by explicit n d left stop at ≡ fragments_by explicit n d levels stop at
  unfolding fragments_by
  same-fragments zero d stop at = refl
  same-fragments (suc n) d stop at =
      fragment-same stop at _ _ (item_at d false true stop at) (explicit-bounded.item_in d false true stop at) λ i p q. same-fragments n d stop i

  then-rest : (p : Reading Elements) (items items' : ℕ → Reading Items) (at : ℕ) → ((i : ℕ) → items i ≡ items' i)
      → (do (inside, next) ← p; (rest, after) ← items next; read (item at inside rest) after) ≡ (do (inside, next) ← p; (rest, after) ← items' next; read (item at inside rest) after)
  then-rest (fault f) items items' at g = refl
  then-rest (read es n) items items' at g = rw (g n)

  item-rest : (elements elements' : Bool → ℕ → ℕ → Reading Elements) (items items' : ℕ → Reading Items) (at : ℕ) (p : ItemHeader)
      → ((inner : Bool) (end i : ℕ) → elements inner end i ≡ elements' inner end i) → ((i : ℕ) → items i ≡ items' i)
      → by_item elements items at p ≡ by_item elements' items' at p
  unfolding by_item
  item-rest elements elements' items items' at (ItemHeader.refused a) e g = refl
  item-rest elements elements' items items' at (ItemHeader.ends next) e g = refl
  item-rest elements elements' items items' at (ItemHeader.item start end inner) e g =
      rw (e inner end start) (then-rest (elements' inner end start) items items' at g)

  same-items : (n : ℕ) (d : List ℕ) (delimited : Bool) (stop at : ℕ) → items_by explicit n d delimited left stop at ≡ items_by explicit n d delimited levels stop at
  unfolding items_by
  same-items zero d delimited stop at = refl
  same-items (suc n) d delimited stop at =
      item-rest _ _ _ _ at (item_at d true delimited stop at) (λ inner end i. rw same-deeper) λ i. same-items n d delimited stop i

pub levels-count : LevelsCount
unfolding one_at items_at fragments_at
levels-count d delimited left stop at least h = record {
  header = same-header left h d delimited stop at least;
  one = rw (same-header left h d delimited stop at least)
      (header-same stop at _ _ _ _ (element_at d delimited levels stop at least) (explicit-bounded.element-in d delimited levels stop at least)
      (λ inner end i p q r. same-items left h (suc (end - i)) d inner end i) λ i p q. same-fragments left h (suc (stop - i)) d stop i);
}
