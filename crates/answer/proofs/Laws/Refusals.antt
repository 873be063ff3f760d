-- The position of a refusal. Assumes nothing.
use Prim.Native.Nat.{ℕ, zero, suc, ◌<◌}
use mathlib.Core.Path.{◌≡◌, refl}
use native.Mathlib.Omega.{arith}
use Rattle.answer.specs.Answer.{position_for}

-- a refusal has the position that goes with it
pub position-kept : (number position : ℕ) → 0 < number → position_for number position ≡ position
position-kept zero position h = absurd (omega arith)
position-kept (suc n) position h = refl

-- a position 0 stays, for every number
pub position-none : (number : ℕ) → position_for number 0 ≡ 0
position-none zero = refl
position-none (suc n) = refl
