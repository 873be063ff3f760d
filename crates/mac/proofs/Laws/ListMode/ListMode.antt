-- What list mode answers and leaves, place by place, with the facts of the place as premises. Assumes nothing.
use Prim.Native.Nat.{ℕ, ◌≤◌}
use mathlib.Core.Path.{◌≡◌, refl, sym, ap, ◌∙◌}
use mathlib.Core.List.{List, append-nil}
use mathlib.Core.Option.{Option, some}
use mathlib.Core.Option as Opt
use native.Mathlib.Omega.{arith}
use lib.ListN.{length}
use Rattle.answer.specs.declared.Answer.{Answer}
use Rattle.answer.specs.Answer.{◌or_else◌}
use Rattle.answer.specs.Step.{step_by, test_by, answer_by}
use Rattle.answer.proofs.Laws.OrElse.{or-else-second, refused-first}
use Rattle.answer.proofs.Laws.Steps.{IsWhole, whole-accepted, whole-behind, step-answer, step-before, test-is, test-refused}
use Rattle.std.specs.Prelude as code
use Rattle.std.specs.Prelude.{None, Err}
use Rattle.dataset.specs.Tree.{Elements}
use Rattle.dataset.specs.Reading.{Reading, size_limit, size_answer, data_set, answer_of, tree_of}
use Rattle.dataset.specs.Extent.{elements_in, whole_of}
use Rattle.dataset.specs.declared.extent.Extent.{Extent}
use Rattle.dataset.proofs.Laws.Reading.Loops.{data-set-is, size-within}
use Rattle.digest.specs.Message.{limit}
use Rattle.stream.specs.TagList.{tags_in, list_answer}
use Rattle.stream.specs.Stream.{elements_stream, listed_stream}
use Rattle.stream.specs.Listed.{tags_answer}
use Rattle.stream.specs.Own.{own}
use Rattle.stream.specs.Walk.{signed_stream, WrittenAs}
use Rattle.stream.proofs.Laws.Listed.ListedAnswers.{tags-end}
use Rattle.stream.specs.Walk as walk
use Rattle.selection.specs.declared.select.Algorithm.{Algorithm}
use Rattle.mac.specs.Result.{Streamed, CheckedAs}
use Rattle.mac.specs.ListMode.{stream_in, answer_to15, measure, answer, result, stream_call, check_call}
use Rattle.mac.specs.Inner.Verdict.{CheckOf, length_of, length_answer}
use Rattle.mac.specs.Inner.Calls.{list_call, CallAnswered}
use Rattle.mac.specs.declared.verdict.Checked.{Checked}
use Rattle.mac.proofs.Laws.EitherCall.{call-whole, call-refused, measured-is, call-written}
use Rattle.mac.proofs.Laws.Verdict.VerdictOfChecks.{AllFit, call-streamed, call-checked}

module _ (l d : List ℕ) where
  -- ---- 1
  module _ (r : code.Result (Unit {0}) Answer) (e : r ≡ test_by (size_answer d)) (a : Answer) (q : r ≡ Err a) where
    some-number : a.number ≡ 0 → ⊥
    some-number = test-refused r (size_answer d) e a q

    over : a ≡ answer_to15 l d
    unfolding answer_to15
    over = refused-first a (size_answer d) _ (test-is r (size_answer d) e a q) some-number

    pub list_over : Err a ≡ step_by (measure l d)
    unfolding measure
    list_over = step-before a (answer_to15 l d) _ over λ z. some-number (ap (λ (x : Answer). x.number) over ∙ z)

    pub list-refused : (given : code.Option ℕ) (out : List ℕ) → CallAnswered (list_call l d out) given limit out (Err a) out
    unfolding answer
    list-refused given out = call-refused (answer_to15 l d) (stream_in l d) given limit out a over some-number

  pub measure-whole : (r : code.Result ℕ Answer) (a : Answer) → r ≡ step_by (measure l d) → a ≡ answer_by r → a ≡ measure l d
  unfolding measure
  measure-whole r a e q = q ∙ step-answer r (measure l d) e (whole-behind (answer_to15 l d) _ (whole-accepted (length (stream_in l d))))

  -- ---- the whole data set, with no signature item
  module _ (h : length d ≤ size_limit) (x : Extent) (w : x ≡ whole_of (length d)) where
    whole : data_set d ≡ elements_in d x
    whole = rw w (data-set-is d h)

    answer-is : answer_to15 l d ≡ walk.answer_to15 l d x None
    unfolding answer_to15 walk.answer_to15 walk.read_answer
    answer-is =
        or-else-second (size_answer d) _ (ap (λ (a : Answer). a.number) (size-within d h))
        ∙ ap (λ (p : Reading Elements). list_answer l or_else answer_of p or_else tags_answer 0 (tags_in l) (tree_of p)) whole
        ∙ ap (λ (a : Answer). list_answer l or_else answer_of (elements_in d x) or_else a) (sym (tags-end 0 (tags_in l) (tree_of (elements_in d x))))

    stream-is : stream_in l d ≡ walk.stream_in l d x None
    unfolding stream_in walk.stream_in signed_stream own elements_stream
    stream-is = ap (λ (p : Reading Elements). listed_stream (tags_in l) (tree_of p) d) whole ∙ sym (append-nil _)

    pub list-measured : (r : code.Result ℕ Answer) → r ≡ step_by (walk.measure l d x None) → r ≡ step_by (measure l d)
    unfolding measure
    list-measured r e = measured-is (answer_to15 l d) (stream_in l d) l d x None answer-is stream-is r e

    pub list_written : (of : Algorithm) (given : code.Option ℕ) (later : code.Result (Unit {0}) Answer) → later ≡ test_by (length_answer of given)
        → (out : List ℕ) (r : code.Result ℕ Answer) (ys : List ℕ)
        → WrittenAs l d x None later out r ys → CallAnswered (list_call l d out) given limit out r ys
    unfolding answer
    list_written of given later q out r ys t =
        call-written (answer_to15 l d) (stream_in l d) l d x None answer-is stream-is of given limit out (omega arith) later q r ys t

-- ---- the calls
module _ (l d out : List ℕ) (expected : Option (List ℕ)) where
  whole-call : IsWhole (list_call l d out expected).answer
  unfolding answer
  whole-call = call-whole (answer_to15 l d) (stream_in l d) (length out) expected

pub list-streamed : (l d out after : List ℕ) (r : code.Result ℕ Answer) (a : Answer) → CallAnswered (list_call l d out) (length_of Opt.none) limit out r after
    → a ≡ answer_by r → AllFit d → Streamed (result (stream_call l d out)) d out a after
list-streamed l d out after r a s e b = call-streamed (list_call l d out) d out after r a e s (whole-call l d out Opt.none) b

pub list-checked : (l d expected work after : List ℕ) (w : code.Result ℕ Answer) → CallAnswered (list_call l d work) (length_of (some expected)) limit work w after
    → (of : Algorithm) (r : Checked) → CheckOf of w expected after r → AllFit d → CheckedAs (result (check_call l d expected work)) d work r after
list-checked l d expected work after w s of r k b = call-checked (list_call l d work) d expected work after w s refl b of r (whole-call l d work (some expected)) k
