-- An extent that does not lie inside the data, by what `outside_answer` says of it: its first header refuses it. Assumes nothing.
use Rattle.std.proofs.Common.{if◌then◌else◌}
use Rattle.std.specs.Prelude.{Result, Ok, Err}
use Prim.Native.Nat.{ℕ}
use mathlib.Core.Path.{◌≡◌, refl, sym, ap, ◌∙◌}
use mathlib.Core.Bool.{Bool, true, false, true≢false}
use mathlib.Core.List.{List}
use native.Mathlib.Omega.{arith}
use Rattle.answer.specs.declared.Answer.{Answer}
use Rattle.answer.specs.Answer.{accepted}
use Rattle.answer.specs.Step.{test_by}
use Rattle.dataset.specs.Header.{fault_at, outside}
use Rattle.dataset.specs.Reading.{fault, answer_of}
use Rattle.dataset.specs.Extent.{elements_in, outside_answer}
use Rattle.dataset.specs.Place.{Lies}
use Rattle.dataset.specs.declared.extent.Extent.{Extent}
use Rattle.dataset.proofs.Laws.Header.HeaderFacts.{inside_of}
use Rattle.dataset.proofs.Laws.Reading.Outcomes.{outside-refused}

-- ---- the two returns of `outside_answer`; b says whether the extent is outside
module _ (d : List ℕ) (x : Extent) (b : Bool) (e : b ≡ outside d x.stop x.from) where
  pub is-outside : (a : Answer) → b ≡ true → a ≡ fault_at 2 x.from → Err a ≡ test_by (outside_answer d x)
  unfolding outside_answer test_by
  is-outside a t q = rw (← e, t, q)

  pub is-inside : b ≡ false → Ok tt ≡ test_by (outside_answer d x)
  unfolding outside_answer test_by
  is-inside t = rw (← e, t)

-- ---- what its answer says
module _ (d : List ℕ) (x : Extent) (r : Result (Unit {0}) Answer) (e : r ≡ test_by (outside_answer d x)) where
  abbrev answers : Bool → Answer
  answers b = if b then fault_at 2 x.from else accepted 0

  pub outside-fault : (a : Answer) → r ≡ Err a → elements_in d x ≡ fault a
  unfolding outside_answer test_by
  outside-fault a w = go (outside d x.stop x.from) refl (sym w ∙ e)
    where
      go : (b : Bool) → outside d x.stop x.from ≡ b → Err a ≡ test_by (answers b) → elements_in d x ≡ fault a
      go true t q = let s : a ≡ fault_at 2 x.from = cc in outside-refused d x.delimited x.left x.stop x.from 0 t ∙ ap fault (sym s)
      go false t q = absurd (true≢false (cc))

  pub inside-lies : (u : Unit {0}) → r ≡ Ok u → Lies d x
  unfolding outside_answer test_by
  inside-lies u w = go (outside d x.stop x.from) refl (sym w ∙ e)
    where
      go : (b : Bool) → outside d x.stop x.from ≡ b → Ok u ≡ test_by (answers b) → Lies d x
      go true t q = absurd (true≢false (cc))
      go false t q = let l = inside_of d x.stop x.from t in record { order = l.1; inside = l.0 }

-- where what is read is no fault the extent lies inside the data
pub read-lies : (d : List ℕ) (x : Extent) → (answer_of (elements_in d x)).number ≡ 0 → Lies d x
unfolding outside_answer
read-lies d x h = go (outside d x.stop x.from) refl
  where
    go : (b : Bool) → outside d x.stop x.from ≡ b → Lies d x
    go true t = let z : ◌≡◌ {A = ℕ} 2 0 = rw (outside-refused d x.delimited x.left x.stop x.from 0 t) at h in absurd (omega arith)
    go false t = let l = inside_of d x.stop x.from t in record { order = l.1; inside = l.0 }
