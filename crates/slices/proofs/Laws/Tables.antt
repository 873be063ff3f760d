-- Lists by index, as a loop fills them.
-- Assumes nothing.
use Prim.Native.Nat.{ℕ, zero, suc, ◌+◌, ◌<◌}
use mathlib.Core.Path.{◌≡◌, refl, ap, ap₂, ◌∙◌}
use mathlib.Core.List.{List, [], ◌∷◌, ◌++◌}
use native.Mathlib.Numerals.{add-one}
use lib.ListN.{length, take, set, length-append}
use lib.Seq.{take-suc-set}
use Rattle.slices.specs.Lists.{tabulate}

pub length-tabulate : (f : ℕ → ℕ) (n : ℕ) → length (tabulate f n) ≡ n
unfolding tabulate
length-tabulate f zero = refl
length-tabulate f (suc n) = length-append (tabulate f n) (f n ∷ []) ∙ add-one _ ∙ ap suc (length-tabulate f n)

-- one more element stored in its place, behind a list that holds all before it
pub stored_next : (w ws : List ℕ) (i x y : ℕ) → i < length w → take i w ≡ ws → x ≡ y → take (i + 1) (set w i x) ≡ ws ++ (y ∷ [])
stored_next w ws i x y h e p = rw add-one (take-suc-set w i x h ∙ ap₂ (λ (l : List ℕ) (z : ℕ). l ++ (z ∷ [])) e p)

-- one more entry of a table
pub tabulate-next : (f : ℕ → ℕ) (w : List ℕ) (i x : ℕ) → i < length w → take i w ≡ tabulate f i → x ≡ f i
    → take (i + 1) (set w i x) ≡ tabulate f (i + 1)
unfolding tabulate
tabulate-next f w i x h e p = stored_next w (tabulate f i) i x (f i) h e p ∙ (rw add-one refl)
