-- Lists of zeros: the room past the waiting bytes.
-- Assumes nothing.
use Rattle.std.proofs.Common.{◌≡◌, ℕ, zero, suc, ◌-◌, ◌≤◌, Bool, true, eqb, List, [], ◌∷◌, length, take, drop, replicate, refl, ap, ◌∙◌, ap₂, arith, length-drop, take_all, eqb-true}
use mathlib.Core.Bool.{and-eq-true_iff}
use Rattle.slices.specs.Lists.{all_are}

pub zeros-zero : (k : ℕ) → all_are 0 (replicate k 0) ≡ true
unfolding all_are
zeros-zero zero = refl
zeros-zero (suc k) = zeros-zero k

pub zero-list : (l : List ℕ) → all_are 0 l ≡ true → l ≡ replicate (length l) 0
unfolding all_are
zero-list [] e = refl
zero-list (x ∷ l) e =
    let tests = (and-eq-true_iff (eqb x 0) (all_are 0 l)).0 e in
    ap₂ (λ (y : ℕ) (t : List ℕ). y ∷ t) (eqb-true x 0 tests.0) (zero-list l tests.1)

-- ---- parts of a list of one value
pub drop-replicate : (k n z : ℕ) → drop k (replicate n z) ≡ replicate (n - k) z
drop-replicate zero n z =
    let e : n - 0 ≡ n = omega arith in
    rw e refl
drop-replicate (suc k) zero z =
    let e : 0 - suc k ≡ 0 = omega arith in
    rw e refl
drop-replicate (suc k) (suc n) z =
    let e : suc n - suc k ≡ n - k = omega arith in
    rw e (drop-replicate k n z)

pub take-replicate : (k n z : ℕ) → k ≤ n → take k (replicate n z) ≡ replicate k z
take-replicate zero n z h = refl
take-replicate (suc k) zero z h = absurd (omega arith)
take-replicate (suc k) (suc n) z h = ap (λ (l : List ℕ). z ∷ l) (take-replicate k n z (omega arith))

-- ---- a list tested from an index on: the part from there to its end
pub zeros-from : (l : List ℕ) (from n : ℕ) (r : Bool) → length l ≡ n → r ≡ all_are 0 (take (n - from) (drop from l)) → r ≡ all_are 0 (drop from l)
zeros-from l from n r e h = h ∙ ap (all_are 0) (take_all (n - from) (drop from l) (simp length-drop (omega arith)))
