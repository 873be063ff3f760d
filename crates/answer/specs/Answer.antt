-- The answer of a call: docs/RULES.md, 9. 9.1: "Every answer consists of number, position and length." `Answer` is the struct of
-- src/lib.rt.
-- Assumes nothing.
use Rattle.std.specs.Prelude.{ℕ, zero, suc, eqb, if◌then◌else◌}
use Rattle.answer.specs.declared.Answer.{Answer}

-- 9.1: "With number 0 the position is 0." 7.1: "A call with number 0 is accepted."
abbrev pub accepted : (length : ℕ) → Answer
accepted length = record { number = 0; position = 0; length = length }

-- the position that goes with a number. 9.1: "With number 0 the position is 0."
abbrev pub position_for : (number position : ℕ) → ℕ
position_for zero position = 0
position_for (suc n) position = position

-- 1.6: "The length of a refusal is 0". 0 is no refusal: it gives what `accepted 0` is.
abbrev pub refused : (number position : ℕ) → Answer
refused number position = record { number = number; position = position_for number position; length = 0 }

-- the first answer, or where it is accepted the second: refusals in their written order
infixr 4 ◌or_else◌
unfoldable pub ◌or_else◌ : Answer → Answer → Answer
first or_else second = if eqb first.number 0 then second else first
