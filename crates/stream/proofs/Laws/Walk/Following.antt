-- What follows the listed elements, place by place of `write_following`, with the facts of the place as premises. Assumes nothing.
use Prim.Native.Nat.{ℕ, ◌+◌, ◌≤◌}
use mathlib.Core.Path.{◌≡◌, refl, sym, ap, ◌∙◌}
use mathlib.Core.Bool.{true≢false}
use mathlib.Core.List.{List}
use native.Mathlib.Omega.{arith}
use lib.ListN.{length}
use Rattle.std.specs.Prelude.{Result, Ok, Err}
use Rattle.answer.specs.declared.Answer.{Answer}
use Rattle.answer.specs.Answer.{accepted}
use Rattle.answer.specs.Step.{test_by}
use Rattle.answer.proofs.Laws.Steps.{step-passes, step-behind, step-before, test-refused}
use Rattle.dataset.specs.Tree.{Elements}
use Rattle.dataset.specs.Reading.{Reading, fault, read}
use Rattle.dataset.specs.Place.{Lies}
use Rattle.dataset.specs.Extent.{elements_in, outside_answer}
use Rattle.dataset.specs.declared.extent.Extent.{Extent}
use Rattle.dataset.proofs.Laws.Extent.Outside.{outside-fault, inside-lies}
use Rattle.dataset.proofs.Laws.Reading.Guarantees.{holds_read, ElementsIn, elements-read}
use Rattle.stream.specs.Inner.Own.{own_stream, OwnWalk}
use Rattle.stream.specs.Inner.Writer.{holds_none, walked, Leaves}
use Rattle.stream.specs.Inner.Walk.{FollowingWalk}
use Rattle.stream.specs.declared.writer.Written.{Written}
use Rattle.stream.proofs.Laws.Listed.WalkListLoop.{fault-left}
use Rattle.stream.proofs.Laws.Own.OwnElements.{own-no-longer}

-- a fault of a data set in an extent has a number that is not 0
pub fault-number : (d : List ℕ) (x : Extent) (f : Answer) → Lies d x → elements_in d x ≡ fault f → (f.number ≡ 0 → ⊥)
fault-number d x f l e = fault-left d x x.from 0 f l.order e

module _ (d : List ℕ) (x : Extent) (to : ℕ) where
  follows-fault : (f : Answer) (xs ys : List ℕ) → elements_in d x ≡ fault f → (f.number ≡ 0 → ⊥) → FollowingWalk d x to (Err f) xs ys
  follows-fault f xs ys e k = record { answers = rw e (step-before f f _ refl k); output = λ n q. absurd (true≢false (cc)); short = tt }

  -- b says whether the item lies outside the data
  module _ (b : Result (Unit {0}) Answer) (e : b ≡ test_by (outside_answer d x)) where
    pub follows-outside : (f : Answer) → b ≡ Err f → (xs : List ℕ) → FollowingWalk d x to (Err f) xs xs
    follows-outside f q xs =
        follows-fault f xs xs (outside-fault d x b e f q) (test-refused b (outside_answer d x) e f q)

    -- t is what the walk over the signature item gives, and ys what it leaves
    module _ (u : Unit {0}) (z : b ≡ Ok u) (xs ys : List ℕ) (t : Result Written Answer) (o : OwnWalk d x to t xs ys) where
      item-lies : Lies d x
      item-lies = inside-lies d x b e u z

      pub follows-refused : (f : Answer) → t ≡ Err f → FollowingWalk d x to (Err f) xs ys
      unfolding walked
      follows-refused f q = let u = by (elements_in d x) refl o.answers in follows-fault f xs ys u (fault-number d x f item-lies u)
        where
          by : (p : Reading Elements) → elements_in d x ≡ p → t ≡ walked holds_none own_stream p d to → elements_in d x ≡ fault f
          by (fault g) u v = let y : g ≡ f = cc in u ∙ ap fault y
          by (read es n) u v = absurd (true≢false (cc))

      own-length : (es : Elements) (n : ℕ) → elements_in d x ≡ read es n → length (own_stream es d) ≤ length d
      unfolding own_stream
      own-length es n u =
          let i = holds_read (ElementsIn d x.delimited x.left x.stop 0 x.from) (elements_in d x) es n
          (elements-read d x.left x.stop x.from item-lies.inside x.delimited 0) u in
          let k = own-no-longer es d x.left 0 x.from n i.tree in
          omega (arith, k, i.inside, item-lies.inside)

      pub follows-written : (past : Written) → t ≡ Ok past → FollowingWalk d x to (Ok past.to) xs ys
      unfolding walked Leaves
      follows-written past q = by (elements_in d x) refl o.answers o.output
        where
          by : (p : Reading Elements) → elements_in d x ≡ p → t ≡ walked holds_none own_stream p d to → Leaves own_stream p d to xs ys → FollowingWalk d x to (Ok past.to) xs ys
          by (fault g) u v y = absurd (true≢false (cc))
          by (read es n) u v y =
              let m : past ≡ record { holds_un = holds_none es; next = n; to = to + length (own_stream es d) } = cc in
              let k : past.to ≡ to + length (own_stream es d) = ap (λ (w : Written). w.to) m in
              record {
                answers = rw u (step-behind (accepted 0) _ (Ok past.to) refl (step-passes past.to _ (ap accepted (sym k))));
                output = λ n q. rw u y;
                short = omega (arith, k, own-length es n u);
              }
