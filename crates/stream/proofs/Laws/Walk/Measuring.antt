-- Measuring, place by place of `measure`, with the facts of the place as premises; and what it says where it is accepted. Assumes nothing.
use Rattle.std.proofs.Common.{if◌then◌else◌}
use Prim.Native.Nat.{ℕ, ◌+◌}
use mathlib.Core.Path.{◌≡◌, refl, sym, ap, ◌∙◌}
use mathlib.Core.Bool.{Bool, true, false}
use mathlib.Core.List.{List, [], ◌∷◌}
use native.Mathlib.Omega.{arith}
use lib.Dec.{ltb}
use lib.ListN.{length}
use Rattle.answer.specs.declared.Answer.{Answer}
use Rattle.answer.specs.Answer.{accepted, refused, ◌or_else◌}
use Rattle.std.specs.Prelude.{Option, Result, Ok}
use Rattle.answer.specs.Step.{step_by, test_by}
use Rattle.answer.proofs.Laws.OrElse.{or-else-second, or-else-assoc, both-accepted}
use Rattle.answer.proofs.Laws.Steps.{step-accepted, test-accepted}
use Rattle.dataset.specs.Reading.{answer_of}
use Rattle.dataset.specs.Place.{Lies}
use Rattle.dataset.specs.Extent.{elements_in}
use Rattle.dataset.specs.declared.extent.Extent.{Extent}
use Rattle.dataset.proofs.Laws.Extent.Outside.{read-lies}
use Rattle.stream.specs.TagList.{tags_in, bad_size, ascending_answer, unbarred_answer, list_answer}
use Rattle.stream.specs.Walk.{item_reading, stream_in, read_answer, answer_to15, measure}
use Rattle.stream.specs.Inner.Walk.{walk_answer}

-- ---- the tag list
first-accepted : (b : Bool) (index : ℕ) (rest : Answer) → (rest.number ≡ 0 → rest ≡ accepted 0) → (if b then refused 11 index else rest).number ≡ 0
    → (if b then refused 11 index else rest) ≡ accepted 0
first-accepted true index rest k h = let z : ◌≡◌ {A = ℕ} 11 0 = h in absurd (omega arith)
first-accepted false index rest k h = k h

ascending-accepted : (index least : ℕ) (tags : List ℕ) → (ascending_answer index least tags).number ≡ 0 → ascending_answer index least tags ≡ accepted 0
unfolding ascending_answer
ascending-accepted index least [] h = refl
ascending-accepted index least (tag ∷ tags) h =
    first-accepted (ltb tag least) index (ascending_answer (index + 1) (tag + 1) tags) (ascending-accepted (index + 1) (tag + 1) tags) h

list-ascends : (l : List ℕ) → (list_answer l).number ≡ 0 → ascending_answer 0 0 (tags_in l) ≡ accepted 0
unfolding list_answer
list-ascends l h =
    let a = both-accepted (if bad_size (length l) then refused 10 0 else accepted 0) (ascending_answer 0 0 (tags_in l) or_else unbarred_answer 0 (tags_in l)) h in
    ascending-accepted 0 0 (tags_in l) (both-accepted (ascending_answer 0 0 (tags_in l)) (unbarred_answer 0 (tags_in l)) a.second).first

-- where the test of the list passes
pub passed-ascends : (l : List ℕ) (f : Result (Unit {0}) Answer) → f ≡ test_by (list_answer l) → (u : Unit {0}) → f ≡ Ok u → ascending_answer 0 0 (tags_in l) ≡ accepted 0
passed-ascends l f e u h = list-ascends l (test-accepted f (list_answer l) e u h)

-- ---- measuring
module _ (l d : List ℕ) (x : Extent) (item : Option Extent) where
  abbrev walk : Answer
  walk = walk_answer (tags_in l) d (elements_in d x) (item_reading d item)

  measure-is : measure l d x item ≡ (list_answer l or_else walk)
  unfolding measure answer_to15 stream_in walk_answer
  measure-is = or-else-assoc (list_answer l) _ _

  -- m is what measuring gives; where it is a length, none of 10 to 15 is given
  module _ (m : Result ℕ Answer) (e : m ≡ step_by (measure l d x item)) (n : ℕ) (h : m ≡ Ok n) where
    accepts : (measure l d x item).number ≡ 0
    accepts = (step-accepted m (measure l d x item) e n h).0

    pub first-accepts : (answer_to15 l d x item).number ≡ 0
    unfolding measure
    first-accepts = (both-accepted _ _ accepts).first

    -- what the walk answers
    pub measure-walk : measure l d x item ≡ walk
    measure-walk = measure-is ∙ or-else-second (list_answer l) _ (both-accepted (list_answer l) walk (ap (λ (a : Answer). a.number) (sym measure-is) ∙ accepts)).first

    pub measured-long : n ≡ length (stream_in l d x item)
    unfolding measure
    measured-long = (step-accepted m (measure l d x item) e n h).1 ∙ ap (λ (a : Answer). a.length) (or-else-second (answer_to15 l d x item) _ first-accepts)

    pub measured-ascends : ascending_answer 0 0 (tags_in l) ≡ accepted 0
    unfolding answer_to15
    measured-ascends = list-ascends l (both-accepted (list_answer l) _ first-accepts).first

    pub measured-lies : Lies d x
    unfolding answer_to15 read_answer
    measured-lies = read-lies d x (both-accepted (answer_of (elements_in d x)) _ (both-accepted (list_answer l) _ first-accepts).second).first
