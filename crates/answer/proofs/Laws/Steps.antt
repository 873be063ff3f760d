-- What a step says of its answer, and an answer of its step: laws of `step_by` and `test_by`. Assumes nothing.
use Rattle.std.proofs.Common.{if◌then◌else◌}
use Rattle.std.specs.Prelude.{Result, Ok, Err}
use Prim.Native.Nat.{ℕ}
use mathlib.Core.Path.{◌≡◌, refl, sym, ap, ◌∙◌}
use mathlib.Core.Bool.{Bool, true, false, true≢false}
use lib.Dec.{eqb}
use borrow.Author.Tests.{eqb-true, eqb-false, eq-eqb, ne_eqb}
use Rattle.answer.specs.Answer.{accepted, ◌or_else◌}
use Rattle.answer.specs.Step.{step_by, test_by, ◌and_then◌, answer_by}
use Rattle.answer.specs.declared.Answer.{Answer}
use Rattle.answer.proofs.Laws.OrElse.{or-else-first, or-else-second}

-- ---- the arms of `?`
-- the value that was met, by what it is
pub value-is : {A E : Type 0} (r : Result A E) (x y : A) → r ≡ Ok x → x ≡ y → r ≡ Ok y
value-is r x y e q = e ∙ ap Ok q

-- ---- a test
pub test-passes : (a : Answer) → a.number ≡ 0 → Ok tt ≡ test_by a
unfolding test_by
test-passes a h = rw (eq-eqb a.number 0 h)

pub test-refuses : (f a : Answer) → f ≡ a → (a.number ≡ 0 → ⊥) → Err f ≡ test_by a
unfolding test_by
test-refuses f a e h = rw (e, ne_eqb a.number 0 h)

module _ (r : Result (Unit {0}) Answer) (a : Answer) (e : r ≡ test_by a) where
  pub test-accepted : (u : Unit {0}) → r ≡ Ok u → a.number ≡ 0
  unfolding test_by
  test-accepted u q = go (eqb a.number 0) refl (sym q ∙ e)
    where
      go : (b : Bool) → eqb a.number 0 ≡ b → Ok u ≡ (if b then Ok (tt {0}) else Err a) → a.number ≡ 0
      go true t k = eqb-true a.number 0 t
      go false t k = absurd (true≢false (cc))

  pub test-is : (f : Answer) → r ≡ Err f → f ≡ a
  unfolding test_by
  test-is f q = go (eqb a.number 0) refl (sym q ∙ e)
    where
      go : (b : Bool) → eqb a.number 0 ≡ b → Err f ≡ (if b then Ok (tt {0}) else Err a) → f ≡ a
      go true t k = absurd (true≢false (cc))
      go false t k = cc

  pub test-refused : (f : Answer) → r ≡ Err f → (f.number ≡ 0 → ⊥)
  unfolding test_by
  test-refused f q h = go (eqb a.number 0) refl (sym q ∙ e)
    where
      go : (b : Bool) → eqb a.number 0 ≡ b → Err f ≡ (if b then Ok (tt {0}) else Err a) → ⊥
      go true t k = true≢false (cc)
      go false t k = let s : f ≡ a = cc in eqb-false a.number 0 t (sym (ap (λ (x : Answer). x.number) s) ∙ h)

-- ---- a step
pub step-passes : (n : ℕ) (a : Answer) → a ≡ accepted n → Ok n ≡ step_by a
unfolding step_by
step-passes n a e = rw e

pub step-refuses : (f a : Answer) → f ≡ a → (a.number ≡ 0 → ⊥) → Err f ≡ step_by a
unfolding step_by
step-refuses f a e h = rw (e, ne_eqb a.number 0 h)

module _ (r : Result ℕ Answer) (a : Answer) (e : r ≡ step_by a) where
  pub step-accepted : (n : ℕ) → r ≡ Ok n → (a.number ≡ 0) × (n ≡ a.length)
  unfolding step_by
  step-accepted n q = go (eqb a.number 0) refl (sym q ∙ e)
    where
      go : (b : Bool) → eqb a.number 0 ≡ b → Ok n ≡ (if b then Ok a.length else Err a) → (a.number ≡ 0) × (n ≡ a.length)
      go true t k = (eqb-true a.number 0 t, cc)
      go false t k = absurd (true≢false (cc))

  pub step-is : (f : Answer) → r ≡ Err f → (f ≡ a) × (a.number ≡ 0 → ⊥)
  unfolding step_by
  step-is f q = go (eqb a.number 0) refl (sym q ∙ e)
    where
      go : (b : Bool) → eqb a.number 0 ≡ b → Err f ≡ (if b then Ok a.length else Err a) → (f ≡ a) × (a.number ≡ 0 → ⊥)
      go true t k = absurd (true≢false (cc))
      go false t k = (cc, eqb-false a.number 0 t)

-- ---- a step behind a test
pub step-behind : (a b : Answer) (r : Result ℕ Answer) → a.number ≡ 0 → r ≡ step_by b → r ≡ step_by (a or_else b)
step-behind a b r h e = e ∙ ap step_by (sym (or-else-second a b h))

pub step-before : (f a b : Answer) → f ≡ a → (a.number ≡ 0 → ⊥) → Err f ≡ step_by (a or_else b)
unfolding step_by
step-before f a b e h = rw (or-else-first a b h, ne_eqb a.number 0 h, e)

pub test-behind : (a b : Answer) (r : Result (Unit {0}) Answer) → a.number ≡ 0 → r ≡ test_by b → r ≡ test_by (a or_else b)
test-behind a b r h e = e ∙ ap test_by (sym (or-else-second a b h))

pub test-before : (f a b : Answer) → f ≡ a → (a.number ≡ 0 → ⊥) → Err f ≡ test_by (a or_else b)
unfolding test_by
test-before f a b e h = rw (or-else-first a b h, ne_eqb a.number 0 h, e)

-- behind a test, the step of an answer is that of both
pub and-then-step : (a b : Answer) → (test_by a and_then step_by b) ≡ step_by (a or_else b)
unfolding test_by step_by ◌or_else◌
and-then-step a b = go (eqb a.number 0) refl
  where
    go : (t : Bool) → eqb a.number 0 ≡ t
        → ((if t then Ok (tt {0}) else Err a) and_then step_by b) ≡ (let c : Answer = if t then b else a in if eqb c.number 0 then Ok c.length else Err c)
    go true e = refl
    go false e = rw e

-- ---- the answer of a step. An answer of these rules that is accepted has position 0, and so has each chain that ends in one.
abbrev pub IsWhole : Answer → Type 0
IsWhole a = a.number ≡ 0 → a ≡ accepted a.length

pub whole-accepted : (n : ℕ) → IsWhole (accepted n)
whole-accepted n h = refl

pub whole-behind : (a b : Answer) → IsWhole b → IsWhole (a or_else b)
unfolding ◌or_else◌
whole-behind a b w = go (eqb a.number 0) refl
  where
    go : (t : Bool) → eqb a.number 0 ≡ t → IsWhole (if t then b else a)
    go true e = w
    go false e = λ h. absurd (eqb-false a.number 0 e h)

pub step-answer : (r : Result ℕ Answer) (a : Answer) → r ≡ step_by a → IsWhole a → answer_by r ≡ a
unfolding step_by
step-answer r a e w = go (eqb a.number 0) refl e
  where
    go : (t : Bool) → eqb a.number 0 ≡ t → r ≡ (if t then Ok a.length else Err a) → answer_by r ≡ a
    go true h k = rw k (sym (w (eqb-true a.number 0 h)))
    go false h k = rw k
