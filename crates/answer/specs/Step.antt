-- How the code hands an answer on from step to step: as a `Result`, whose error is the refusal, whole (docs/DECISIONS.md, A5).
-- Assumes nothing.
use Rattle.std.specs.Prelude.{ℕ, Ok, Err, Result, eqb, if◌then◌else◌}
use Rattle.answer.specs.declared.Answer.{Answer}
use Rattle.answer.specs.Answer.{accepted}

-- the step that has this answer: the length where it is accepted, or else the refusal
unfoldable pub step_by : Answer → Result ℕ Answer
step_by a = if eqb a.number 0 then Ok a.length else Err a

-- the test that has this answer: nothing where it is accepted, or else the refusal
unfoldable pub test_by : Answer → Result (Unit {0}) Answer
test_by a = if eqb a.number 0 then Ok tt else Err a

-- a step behind a test: its own, where the test passes, or else the test's refusal
infixr 4 ◌and_then◌
abbrev pub ◌and_then◌ : {A : Type 0} → Result (Unit {0}) Answer → Result A Answer → Result A Answer
Ok u and_then step = step
Err a and_then step = Err a

-- the answer of a step
abbrev pub answer_by : Result ℕ Answer → Answer
answer_by (Ok length) = accepted length
answer_by (Err a) = a
