-- The theorems that specs/Theorems.antt states: those of the calls, carried over. Assumes nothing.
use Prim.Native.Nat.{ℕ}
use mathlib.Core.Path.{◌≡◌, refl, sym, ap, ◌∙◌}
use mathlib.Core.List.{List}
use lib.ListN.{length, get_or}
use Rattle.mac.specs.Result.{Result, Streamed}
use Rattle.mac_theorems.specs.Calls.{EitherCall, set_of, room_of, result_of}
use Rattle.mac_theorems.specs.Demand3.{written}
use Rattle.mac_theorems.proofs.Demand3.{demand-3}
use Rattle.mac_theorems.proofs.Theorems as calls
use Rattle.eddyplume.specs.Boundary.{answer_words, which_of, StreamedTo, CheckedTo}
use Rattle.eddyplume.specs.Theorems.{RunInC, LeavesRuns, number_in, written_in, FirstHalfInC, SecondHalfInC, AcceptedHasContentInC, MeasuresInC, Theorems}

-- ---- what the functions leave is a run
checked-run : (c : EitherCall) (work after answer verdict : List ℕ) → room_of c ≡ length work → CheckedTo (result_of c) (set_of c) work after answer verdict
    → RunInC c work after answer (get_or verdict 0 0)
checked-run c work after answer verdict room u = record {
  given = (result_of c).answer;
  run = record { room = room; answers = refl; says = ap (λ (v : List ℕ). get_or v 0 0) u.says; output = u.output; bytes = u.bytes };
  words = u.answers;
}

streamed : (c : Result) (set out after answer : List ℕ) → StreamedTo c set out after answer → Streamed c set out c.answer after
streamed c set out after answer u = record { answers = refl; output = u.output; bytes = u.bytes }

leaves-runs : LeavesRuns
leaves-runs = record {
  list-stream = λ list set out after answer u. record {
    given = _;
    run = demand-3.promised.list-stream list set out after _ (streamed _ set out after answer u);
    words = u.answers;
  };
  list-check = λ list set expected work after answer verdict. checked-run _ work after answer verdict refl;
  signature-stream = λ uid numbered number set out after answer u. record {
    given = _;
    run = demand-3.promised.signature-stream uid (which_of numbered number) set out after _ (streamed _ set out after answer u);
    words = u.answers;
  };
  signature-check = λ uid numbered number set expected work after answer verdict. checked-run _ work after answer verdict refl;
}

-- ---- measuring
measures : MeasuresInC
measures = record {
  of-list = λ list set out after answer measured h u m.
      u.answers ∙ ap answer_words ((calls.theorems).measures-as-stream.of-list list set out (rw (ap (λ (w : List ℕ). get_or w 2 0) m) at h)) ∙ sym m;
  of-signature = λ uid numbered number set out after answer measured h u m.
      u.answers ∙ ap answer_words ((calls.theorems).measures-as-stream.of-signature uid (which_of numbered number) set out (rw (ap (λ (w : List ℕ). get_or w 2 0) m) at h)) ∙ sym m;
}

-- ---- the words of an answer
module _ (c : EitherCall) (out after answer : List ℕ) (said : ℕ) (u : RunInC c out after answer said) where
  number-in : number_in answer ≡ u.given.number
  number-in = ap number_in u.words

  written_in_lem : written_in answer after ≡ written u.given after
  written_in_lem = ap (λ (w : List ℕ). written_in w after) u.words

first-half : FirstHalfInC
first-half c k out out' after after' answer answer' said said' u u' h h' n =
    let a = demand-3.first-half c k out out' after after' u.given u'.given said said' u.run u'.run
    (sym (number-in _ out after answer said u) ∙ h) (sym (number-in _ out' after' answer' said' u') ∙ h') n in
    let w = written_in_lem _ out after answer said u in
    let w' = written_in_lem _ out' after' answer' said' u' in
    (λ q. a.0 (sym w ∙ q ∙ w'), λ q. w ∙ a.1 q ∙ sym w')

second-half : SecondHalfInC
second-half c s out out' after after' answer answer' said said' u u' g g' same =
    let a = demand-3.second-half c s out out' after after' u.given u'.given said said' u.run u'.run g g' same in
    record {
      answers = u'.words ∙ ap answer_words a.answers ∙ sym u.words;
      verdicts = a.verdicts;
      streams = written_in_lem _ out' after' answer' said' u' ∙ a.streams ∙ sym (written_in_lem _ out after answer said u);
    }

accepted-has-content : AcceptedHasContentInC
accepted-has-content c out after answer said u h =
    demand-3.accepted-has-content c out after u.given said u.run (sym (number-in _ out after answer said u) ∙ h)

pub theorems : Theorems
theorems = record {
  leaves-runs = leaves-runs;
  measures = measures;
  first-half = first-half;
  second-half = second-half;
  accepted-has-content = accepted-has-content;
}
