use Rattle.std.proofs.Common.{ℕ, ◌-◌, ◌≡◌, Bool, true, false, ◌&&◌, List, [], ◌∷◌, eqb, length, drop, get_or, refl, rules}
use lib.Pointwise.{pointwise}
use native.Mathlib.Numerals.{unary_clauses}
use Rattle.selection.specs.Selection.{less_nul}
use Rattle.selection.proofs.parameters.less_nul.Goals as goal

-- the test of the last byte, as `strip_suffix` makes it
nul-test : (value : List ℕ) → pointwise eqb (drop (length value - 1) value) (0 ∷ []) ≡ eqb (get_or value (length value - 1) 1) 0
nul-test [] = refl
nul-test (x ∷ value) = simp unary_clauses (go x value)
  where
    and_true : (b : Bool) → (b && true) ≡ b
    and_true true = refl
    and_true false = refl

    go : (x : ℕ) (value : List ℕ) → pointwise eqb (drop (length value) (x ∷ value)) (0 ∷ []) ≡ eqb (get_or (x ∷ value) (length value) 1) 0
    go x [] = and_true (eqb x 0)
    go x (y ∷ value) = go y value

pub returns : goal.returns
unfolding less_nul
returns c = search (rules, nul-test)
