-- `==` of two slices of bytes is `same_bytes`; and the loop of `same`, place by place, with the facts of the place as premises. Assumes nothing.
use Prim.Native.Nat.{ℕ, suc, ◌+◌, ◌≤◌, ◌<◌}
use mathlib.Core.Path.{◌≡◌, refl, sym, ap, ◌∙◌}
use mathlib.Core.Bool.{Bool, true, false, ◌&&◌}
use mathlib.Core.List.{List, [], ◌∷◌}
use native.Mathlib.Omega.{arith}
use lib.Dec.{eqb}
use lib.ListN.{length, drop, get_or, length-drop}
use lib.Pointwise.{pointwise}
use borrow.Author.Tests.{eq-eqb, ne_eqb}
use Rattle.slices.specs.Lists.{same_bytes}
use Rattle.slices.proofs.Laws.Parts.{drop-one}

pub pointwise-same_bytes : (x y : List ℕ) → pointwise eqb x y ≡ same_bytes x y
unfolding same_bytes
pointwise-same_bytes [] [] = refl
pointwise-same_bytes [] (b ∷ y) = refl
pointwise-same_bytes (a ∷ x) [] = refl
pointwise-same_bytes (a ∷ x) (b ∷ y) = ap (λ (t : Bool). eqb a b && t) (pointwise-same_bytes x y)

-- ---- `same`
pub record SameLoop (a b : List ℕ) (i : ℕ) : Type 0 where
  pub inside : i ≤ length a
  pub same : same_bytes a b ≡ same_bytes (drop i a) (drop i b)

pub same_start : (a b : List ℕ) → SameLoop a b 0
same_start a b = record { inside = omega arith; same = refl }

pub same-lengths : (a b : List ℕ) → (length a ≡ length b → ⊥) → false ≡ same_bytes a b
unfolding same_bytes
same-lengths [] [] h = absurd (h refl)
same-lengths [] (y ∷ b) h = refl
same-lengths (x ∷ a) [] h = refl
same-lengths (x ∷ a) (y ∷ b) h = go (eqb x y) (same-lengths a b λ e. h (ap suc e))
  where
    go : (t : Bool) → false ≡ same_bytes a b → false ≡ (t && same_bytes a b)
    go true e = e
    go false e = refl

none_left : (a b : List ℕ) → length a ≡ 0 → length b ≡ 0 → same_bytes a b ≡ true
unfolding same_bytes
none_left [] [] h k = refl
none_left [] (y ∷ b) h k = absurd (omega arith)
none_left (x ∷ a) b h k = absurd (omega arith)

module _ (a b : List ℕ) (i : ℕ) (s : SameLoop a b i) (h : length a ≡ length b) where
  on : i < length a → same_bytes a b ≡ (eqb (get_or a i 0) (get_or b i 0) && same_bytes (drop (i + 1) a) (drop (i + 1) b))
  unfolding same_bytes
  on k = s.same ∙ rw (drop-one a i k, drop-one b i (omega arith))

  pub same_differs : i < length a → (get_or a i 0 ≡ get_or b i 0 → ⊥) → false ≡ same_bytes a b
  same_differs k q = sym (on k ∙ rw (ne_eqb (get_or a i 0) (get_or b i 0) q))

  pub same-again : i < length a → get_or a i 0 ≡ get_or b i 0 → SameLoop a b (i + 1)
  same-again k q = record { inside = omega arith; same = on k ∙ rw (eq-eqb (get_or a i 0) (get_or b i 0) q) }

  pub same_end : length a ≤ i → true ≡ same_bytes a b
  same_end k = sym (s.same ∙ none_left (drop i a) (drop i b) (simp length-drop (omega arith)) (simp length-drop (omega arith)))
