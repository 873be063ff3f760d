-- The writing, place by place of `write`, with the facts of the place as premises. Assumes nothing.
use Prim.Native.Nat.{ℕ, ◌≤◌}
use native.Mathlib.Nat.{zero-add}
use mathlib.Core.Path.{◌≡◌, sym, ap, ◌∙◌}
use mathlib.Core.Bool.{false}
use mathlib.Core.List.{List}
use native.Mathlib.Omega.{arith}
use lib.Dec.{ltb}
use lib.ListN.{length}
use lib.Seq.{sets-eq}
use borrow.Author.Tests.{ltb-false}
use Rattle.answer.specs.declared.Answer.{Answer}
use Rattle.answer.specs.Answer.{accepted, ◌or_else◌}
use Rattle.std.specs.Prelude.{Option, Result, Ok}
use Rattle.answer.specs.Step.{step_by, test_by, ◌and_then◌}
use Rattle.answer.proofs.Laws.OrElse.{or-else-second, both-accepted, passed}
use Rattle.answer.proofs.Laws.Steps.{step-accepted, and-then-step}
use Rattle.dataset.specs.declared.extent.Extent.{Extent}
use Rattle.stream.specs.Walk.{stream_in, answer_to15, measure, answer_from16, write_step, left_in, WrittenAs}
use Rattle.stream.specs.Inner.Walk.{StreamWalk}
use Rattle.stream.proofs.Laws.Walk.Measuring.{first-accepts, measured-long, measure-walk}

-- ---- where 16 is not given
pub from16-accepts : (stream : List ℕ) (room : ℕ) → (answer_from16 stream room).number ≡ 0 → ltb room (length stream) ≡ false
unfolding answer_from16
from16-accepts stream room h = passed (ltb room (length stream)) 16 0 (λ z. omega arith) (both-accepted _ _ h).first

pub from16-accepted : (stream : List ℕ) (room : ℕ) → ltb room (length stream) ≡ false → answer_from16 stream room ≡ accepted (length stream)
unfolding answer_from16
from16-accepted stream room h = or-else-second _ _ (rw h)

-- ---- where `write` writes: m is what measuring gives, and `later` passes
module _ (l d : List ℕ) (x : Extent) (item : Option Extent) (later : Result (Unit {0}) Answer) (out : List ℕ) (m : Result ℕ Answer) (e : m ≡ step_by (measure l d x item)) (n : ℕ) (h : m ≡ Ok n) where
  abbrev all : List ℕ
  all = stream_in l d x item

  long : n ≡ length all
  long = measured-long l d x item m e n h

  pub write-written : (u : Unit {0}) → later ≡ Ok u → (r : Result ℕ Answer) (ys : List ℕ) → StreamWalk l d x item r out ys → n ≤ length out → WrittenAs l d x item later out r ys
  unfolding measure write_step answer_from16 left_in ◌or_else◌ step_by test_by
  write-written u k r ys w j =
      let q : r ≡ Ok (length all) = w.answers ∙ ap step_by (sym (measure-walk l d x item m e n h)) ∙ sym e ∙ h ∙ ap (λ (i : ℕ). Ok i) long in
      record {
        answers = grind (arith, first-accepts l d x item m e n h, long);
        output = w.output (length all) q ∙ sets-eq all out 0 (omega (arith, long)) ∙ rw (q, zero-add (length all));
        short = w.short;
      }

-- ---- where `later` is a test by its answer, a
pub write-answer : (l d : List ℕ) (x : Extent) (item : Option Extent) (later : Result (Unit {0}) Answer) (a : Answer) → later ≡ test_by a → (room : ℕ)
    → write_step l d x item later room ≡ step_by (answer_to15 l d x item or_else a or_else answer_from16 (stream_in l d x item) room)
unfolding write_step
write-answer l d x item later a t room =
    let from16 = answer_from16 (stream_in l d x item) room in
    rw t (ap (λ (r : Result ℕ Answer). test_by (answer_to15 l d x item) and_then r) (and-then-step a from16) ∙ and-then-step (answer_to15 l d x item) (a or_else from16))

-- ---- what an accepted call says
pub record Fits (stream out : List ℕ) (n : ℕ) : Type 0 where
  pub long : n ≡ length stream
  pub room : n ≤ length out

-- `a` is the answer of the caller's test
pub written-fits : (l d : List ℕ) (x : Extent) (item : Option Extent) (later : Result (Unit {0}) Answer) (out : List ℕ) (r : Result ℕ Answer) (after : List ℕ)
    → WrittenAs l d x item later out r after → (a : Answer) → later ≡ test_by a → (n : ℕ) → r ≡ Ok n → Fits (stream_in l d x item) out n
written-fits l d x item later out r after w a t n h =
    let all = stream_in l d x item in
    let whole = answer_to15 l d x item or_else a or_else answer_from16 all (length out) in
    let s = step-accepted r whole (w.answers ∙ write-answer l d x item later a t (length out)) n h in
    let first = both-accepted (answer_to15 l d x item) (a or_else answer_from16 all (length out)) s.0 in
    let next = both-accepted a (answer_from16 all (length out)) first.second in
    let fits = from16-accepts all (length out) next.second in
    let q : whole ≡ accepted (length all) =
    or-else-second (answer_to15 l d x item) _ first.first ∙ or-else-second a _ next.first ∙ from16-accepted all (length out) fits in
    let m = s.1 ∙ ap (λ (b : Answer). b.length) q in
    record { long = m; room = omega (arith, m, ltb-false (length out) (length all) fits) }
