-- What is proved of the calls, said of the functions that C calls. 12.1: "What is promised of a function of the library is promised of the
-- function that C calls". All of it is the record Theorems, proved in proofs/Theorems.antt.
-- Assumes nothing.
use Rattle.std.specs.Prelude.{ℕ, ◌≤◌, ◌≡◌, ◌↔◌, Bool, false, List, length, get_or, take}
use Rattle.answer.specs.declared.Answer.{Answer}
use Rattle.mac.specs.Result.{neither}
use Rattle.mac.specs.ListMode.{Call, content_of}
use Rattle.mac.specs.ListMode as list_mode
use Rattle.mac.specs.SignatureMode as signature_mode
use Rattle.mac_theorems.specs.Calls.{EitherCall, in_list_mode, in_signature_mode, Run}
use Rattle.mac_theorems.specs.Demand3.{signed_in_fragments, on, HasSignedContent}
use Rattle.eddyplume.specs.Boundary.{answer_words, which_of, ListMeasured, SignatureMeasured, ListStreamed, ListChecked, SignatureStreamed, SignatureChecked}

-- what a call of C leaves: a run (crates/mac_theorems/specs/Calls), with its answer in three words
pub record RunInC (c : EitherCall) (out after answer : List ℕ) (said : ℕ) : Type 0 where
  pub given : Answer
  pub run : Run c out given said after
  pub words : answer ≡ answer_words given

-- what each of the four functions that write a stream leaves is such a run; what a check says is verdict[0]
pub record LeavesRuns : Type 0 where
  pub list-stream : (list set out after answer : List ℕ) → ListStreamed list set out after answer
      → RunInC (in_list_mode (list_mode.stream_call list set out)) out after answer neither
  pub list-check : (list set expected work after answer verdict : List ℕ) → ListChecked list set expected work after answer verdict
      → RunInC (in_list_mode (list_mode.check_call list set expected work)) work after answer (get_or verdict 0 0)
  pub signature-stream : (uid : List ℕ) (numbered : Bool) (number : ℕ) (set out after answer : List ℕ)
      → SignatureStreamed uid numbered number set out after answer
      → RunInC (in_signature_mode (signature_mode.stream_call uid (which_of numbered number) set out)) out after answer neither
  pub signature-check : (uid : List ℕ) (numbered : Bool) (number : ℕ) (set expected work after answer verdict : List ℕ)
      → SignatureChecked uid numbered number set expected work after answer verdict
      → RunInC (in_signature_mode (signature_mode.check_call uid (which_of numbered number) set expected work)) work after answer (get_or verdict 0 0)

-- ---- demand 3 (1.8), of what the two functions of list mode leave that write a stream

-- answer[0] is the number, answer[2] the length: the stream that a call has written
abbrev pub number_in : (answer : List ℕ) → ℕ
number_in answer = get_or answer 0 0

abbrev pub written_in : (answer after : List ℕ) → List ℕ
written_in answer after = take (get_or answer 2 0) after

abbrev pub FirstHalfInC : Type 0
FirstHalfInC =
    (c k : Call) (out out' after after' answer answer' : List ℕ) (said said' : ℕ)
    → RunInC (in_list_mode c) out after answer said → RunInC (in_list_mode k) out' after' answer' said'
    → number_in answer ≡ 0 → number_in answer' ≡ 0 → signed_in_fragments (content_of c) ≡ false
    → (written_in answer after ≡ written_in answer' after') ↔ (content_of c ≡ content_of k)

-- 7.8: "the two calls have equal answers and, if they are checks, equal verdicts; and their outputs or work buffers start with the same
-- bytes"
pub record SameInC (answer answer' : List ℕ) (said said' : ℕ) (after after' : List ℕ) : Type 0 where
  pub answers : answer' ≡ answer
  pub verdicts : said' ≡ said
  pub streams : written_in answer' after' ≡ written_in answer after

abbrev pub SecondHalfInC : Type 0
SecondHalfInC =
    (c : Call) (s out out' after after' answer answer' : List ℕ) (said said' : ℕ)
    → RunInC (in_list_mode c) out after answer said → RunInC (in_list_mode (on c s)) out' after' answer' said'
    → HasSignedContent c → HasSignedContent (on c s) → content_of (on c s) ≡ content_of c
    → SameInC answer answer' said said' after after'

-- the second half speaks of every accepted call
abbrev pub AcceptedHasContentInC : Type 0
AcceptedHasContentInC =
    (c : Call) (out after answer : List ℕ) (said : ℕ) → RunInC (in_list_mode c) out after answer said → number_in answer ≡ 0 → HasSignedContent c

-- ---- measuring (7.9): "the answer that the call for the stream has with room enough", which is measured[2]
pub record MeasuresInC : Type 0 where
  pub of-list : (list set out after answer measured : List ℕ)
      → get_or measured 2 0 ≤ length out → ListStreamed list set out after answer → ListMeasured list set measured → answer ≡ measured
  pub of-signature : (uid : List ℕ) (numbered : Bool) (number : ℕ) (set out after answer measured : List ℕ)
      → get_or measured 2 0 ≤ length out → SignatureStreamed uid numbered number set out after answer
      → SignatureMeasured uid numbered number set measured → answer ≡ measured

-- all of them
pub record Theorems : Type 0 where
  pub leaves-runs : LeavesRuns
  pub measures : MeasuresInC
  pub first-half : FirstHalfInC
  pub second-half : SecondHalfInC
  pub accepted-has-content : AcceptedHasContentInC
