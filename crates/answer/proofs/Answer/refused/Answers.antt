-- `Answer::refused` meets its contract: 0 has position 0. Assumes nothing.
use Rattle.std.proofs.Common.{refl, suc, zero, ℕ, ◌∙◌, ◌≡◌}
use Rattle.answer.specs.Answer.{accepted, refused}
use Rattle.answer.specs.declared.Answer.{Answer}
use Rattle.answer.proofs.Answer.refused.Goals as goal

no-refusal : (number position : ℕ) (a : Answer) → number ≡ 0 → a ≡ accepted 0 → a ≡ refused number position
no-refusal number position a h e = e ∙ rw h

refusal : (number position : ℕ) → (number ≡ 0 → ⊥) → ◌≡◌ {A = Answer} (record { number = number; position = position; length = 0 }) (refused number position)
refusal zero position h = absurd (h refl)
refusal (suc n) position h = refl

pub returns-then-number-eq0 : goal.returns-then-number-eq0
returns-then-number-eq0 c = search no-refusal

pub returns : goal.returns
returns c = search refusal
