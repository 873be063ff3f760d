-- Two lists are the same bytes exactly where they are equal. Assumes nothing.
use Prim.Native.Nat.{ℕ}
use mathlib.Core.Path.{◌≡◌, refl, sym, ap, ap₂, ◌∙◌}
use mathlib.Core.Logic.{◌≢◌}
use mathlib.Core.Bool.{true, false, true≢false, false≢true}
use mathlib.Core.List.{List, [], ◌∷◌}
use lib.Dec.{eqb}
use borrow.Author.Tests.{eqb-true, eq-eqb}
use Rattle.slices.specs.Lists.{same_bytes}
use Rattle.slices.proofs.Laws.Bools.{both}

pub same_bytes_lem : (x y : List ℕ) → same_bytes x y ≡ true → x ≡ y
unfolding same_bytes
same_bytes_lem [] [] h = refl
same_bytes_lem [] (b ∷ y) h = absurd (false≢true h)
same_bytes_lem (a ∷ x) [] h = absurd (false≢true h)
same_bytes_lem (a ∷ x) (b ∷ y) h =
    let p = both (eqb a b) (same_bytes x y) h in
    ap₂ (λ (n : ℕ) (z : List ℕ). n ∷ z) (eqb-true a b p.0) (same_bytes_lem x y p.1)

bytes_same : (x : List ℕ) → same_bytes x x ≡ true
unfolding same_bytes
bytes_same [] = refl
bytes_same (a ∷ x) = rw (eq-eqb a a refl, bytes_same x)

pub differ : (x y : List ℕ) → same_bytes x y ≡ false → x ≢ y
differ x y h e = true≢false (sym (bytes_same x) ∙ ap (same_bytes x) e ∙ h)
