-- What a call in either mode answers and leaves, by what the walk over what is signed answers. Assumes nothing.
use Rattle.std.proofs.Common.{if◌then◌else◌}
use Prim.Native.Nat.{ℕ, ◌+◌, ◌≤◌}
use mathlib.Core.Path.{◌≡◌, refl, sym, ap, ◌∙◌}
use mathlib.Core.Bool.{Bool, true, false, true≢false}
use mathlib.Core.List.{List, ◌++◌}
use mathlib.Core.Option.{Option, some}
use mathlib.Core.Option as Opt
use native.Mathlib.Omega.{arith}
use lib.ListN.{length, drop}
use lib.Dec.{eqb}
use borrow.Author.Tests.{ne_eqb}
use Rattle.answer.specs.declared.Answer.{Answer}
use Rattle.answer.specs.Answer.{accepted, refused, ◌or_else◌}
use Rattle.answer.specs.Step.{step_by, test_by}
use Rattle.answer.proofs.Laws.OrElse.{refused-first}
use Rattle.std.proofs.lemmas.Result.{IfOk-at_ok}
use Rattle.answer.proofs.Laws.Steps.{IsWhole, whole-accepted, whole-behind, step-before}
use Rattle.std.specs.Prelude as code
use Rattle.std.specs.Prelude.{Ok, Err}
use Rattle.dataset.specs.declared.extent.Extent.{Extent}
use Rattle.stream.specs.Walk.{answer_from16, left_in, left_by, WrittenAs}
use Rattle.stream.specs.Walk as walk
use Rattle.stream.proofs.Laws.Walk.WriteMeasured.{Fits, write-answer, written-fits}
use Rattle.selection.specs.declared.select.Algorithm.{Algorithm}
use Rattle.selection.specs.declared.select.Algorithm.TheVariants as algorithm
use Rattle.mac.specs.Modes.{bad_digest_length, answer_from9}
use Rattle.mac.specs.Result.{Result, output_after}
use Rattle.mac.specs.Inner.Verdict.{length_of, length_answer}
use Rattle.mac.specs.Inner.Calls.{CallAnswered}

-- ---- 9
nine : (of : Algorithm) (expected : Option (List ℕ)) → (if bad_digest_length expected then refused 9 0 else accepted 0) ≡ length_answer of (length_of expected)
nine of Opt.none = refl
nine algorithm.Sha256 (some e) = refl

-- what a step leaves, by its answer
left-step : (a : Answer) (stream out : List ℕ) → left_by (step_by a) stream out ≡ left_in a stream out
unfolding step_by left_in
left-step a stream out = go (eqb a.number 0) refl
  where
    go : (t : Bool) → eqb a.number 0 ≡ t → left_by (if t then Ok a.length else Err a) stream out ≡ (if t then stream ++ drop (length stream) out else out)
    go true e = refl
    go false e = refl

-- ---- a call with this stream whose order up to 15 comes to `first`
abbrev pub call_of : (first : Answer) (stream : List ℕ) (room : ℕ) → Option (List ℕ) → Result
call_of first stream room expected = record { answer = first or_else answer_from9 stream room expected; stream = stream; expected = expected }

-- the answer of an accepted one has position 0
pub call-whole : (first : Answer) (stream : List ℕ) (room : ℕ) (expected : Option (List ℕ)) → IsWhole (first or_else answer_from9 stream room expected)
unfolding answer_from9 answer_from16
call-whole first stream room expected = whole-behind first _ (whole-behind _ _ (whole-behind _ _ (whole-accepted (length stream))))

module _ (first : Answer) (stream : List ℕ) where
  -- a refusal up to 15
  pub call-refused : (given : code.Option ℕ) (most : ℕ) (out : List ℕ) (a : Answer) → a ≡ first → (a.number ≡ 0 → ⊥)
      → CallAnswered (call_of first stream (length out)) given most out (Err a) out
  unfolding output_after left_in
  call-refused given most out a e h =
      let n : first.number ≡ 0 → ⊥ = λ z. h (ap (λ (x : Answer). x.number) e ∙ z) in
      let q : (expected : Option (List ℕ)) → a ≡ (first or_else answer_from9 stream (length out) expected) = λ expected. refused-first a first _ e h in
      record {
        streamed = λ expected g. record { answers = step-before a first _ e n; output = rw (← q expected, ne_eqb a.number 0 h) };
        long = λ expected k z. absurd (true≢false (cc));
        room = λ k z. absurd (true≢false (cc));
        short = λ k z. absurd (true≢false (cc));
      }

  -- what is signed lies where l, x and item say
  module _ (l d : List ℕ) (x : Extent) (item : code.Option Extent) (e : first ≡ walk.answer_to15 l d x item) (s : stream ≡ walk.stream_in l d x item) where
    pub measured-is : (r : code.Result ℕ Answer) → r ≡ step_by (walk.measure l d x item) → r ≡ step_by (first or_else accepted (length stream))
    unfolding walk.measure
    measured-is r q = q ∙ rw (e, s) refl

    pub call-written : (of : Algorithm) (given : code.Option ℕ) (most : ℕ) (out : List ℕ) → length d + length d ≤ most → (later : code.Result (Unit {0}) Answer)
        → later ≡ test_by (length_answer of given) → (r : code.Result ℕ Answer) (ys : List ℕ) → WrittenAs l d x item later out r ys
        → CallAnswered (call_of first stream (length out)) given most out r ys
    unfolding output_after answer_from9
    call-written of given most out k later q r ys t =
        let from16 = answer_from16 stream (length out) in
        let fits : (n : ℕ) → r ≡ Ok n → Fits (walk.stream_in l d x item) out n = written-fits l d x item later out r ys t (length_answer of given) q in
        let same : (expected : Option (List ℕ)) → length_of expected ≡ given → r ≡ step_by (first or_else answer_from9 stream (length out) expected) =
        λ expected g.
        t.answers ∙ write-answer l d x item later (length_answer of given) q (length out) ∙ ap (λ (a : Answer). step_by (a or_else length_answer of given or_else answer_from16 (walk.stream_in l d x item) (length out))) (sym e)
        ∙ ap (λ (b : List ℕ). step_by (first or_else length_answer of given or_else answer_from16 b (length out))) (sym s)
        ∙ ap (λ (a : Answer). step_by (first or_else a or_else from16)) (ap (length_answer of) (sym g) ∙ sym (nine of expected)) in
        record {
          streamed = λ expected g. record {
            answers = same expected g;
            output = t.output ∙ ap (λ (b : List ℕ). left_by r b out) (sym s) ∙ ap (λ (v : code.Result ℕ Answer). left_by v stream out) (same expected g)
                ∙ left-step _ stream out;
          };
          long = λ expected n z. (fits n z).long ∙ ap length (sym s);
          room = λ n z. (fits n z).room;
          short = λ n z. let h : n ≤ length d + length d = IfOk-at_ok (λ m. m ≤ length d + length d) z t.short in omega (arith, h);
        }
