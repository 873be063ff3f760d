-- The theorems that specs/Theorems.antt states. Assumes nothing.
use Prim.Native.Nat.{ℕ, ◌+◌, ◌≤◌}
use mathlib.Core.Path.{◌≡◌, refl, sym, ap, ◌∙◌}
use mathlib.Core.Logic.{◌≢◌}
use mathlib.Core.List.{List}
use mathlib.Core.Option as Opt
use mathlib.Core.Bool.{true, true≢false}
use native.Mathlib.Omega.{arith}
use lib.ListN.{length, replicate, length-replicate}
use borrow.Author.Tests.{eq-eqb}
use Rattle.answer.specs.declared.Answer.{Answer}
use Rattle.answer.specs.Answer.{accepted}
use Rattle.mac.specs.Result.{is_accepted}
use Rattle.mac.specs.ListMode as list_mode
use Rattle.mac.specs.SignatureMode as signature_mode
use Rattle.mac_theorems.specs.Calls.{EitherCall, in_list_mode, in_signature_mode, set_of, room_of, result_of}
use Rattle.mac_theorems.specs.Removed17.{Without17}
use Rattle.mac_theorems.specs.Theorems.{Numbers, Positions, AcceptedOutput, RefusedOutput, VerdictExact, MeasuresAsStream, EnoughRoom, Theorems}
use Rattle.mac_theorems.proofs.Laws.Answers.EveryAnswer.{Regular, answer-regular}
use Rattle.mac_theorems.proofs.Laws.Answers.Acceptance.{answer-accepted, answer-fits}
use Rattle.mac_theorems.proofs.Laws.Answers.SignatureAcceptance as signed
use Rattle.mac_theorems.proofs.Laws.Answers.Outputs.{output-stream, output-rest, output-room, output-refused}
use Rattle.mac_theorems.proofs.Laws.Answers.Verdicts.{says}
use Rattle.mac_theorems.proofs.Laws.Signature.SignatureStream.{signature-stream}
use Rattle.mac_theorems.proofs.Laws.Answers.CheckAnswers.{checks-as-stream, list-measured, signature-measured}
use Rattle.mac_theorems.proofs.Laws.Length.SignatureStreamLength.{never-longer}
use Rattle.mac_theorems.proofs.Removed17.{answers-same}

-- ---- a call in either mode
call-regular : (c : EitherCall) → Regular c (result_of c).answer
call-regular (in_list_mode c) = answer-regular c
call-regular (in_signature_mode c) = signed.answer-regular c

call-accepted : (c : EitherCall) → is_accepted (result_of c) ≡ true → (result_of c).answer ≡ accepted (length (result_of c).stream)
call-accepted (in_list_mode c) h = answer-accepted c h
call-accepted (in_signature_mode c) h = signed.answer-accepted c h

call_fits : (c : EitherCall) → is_accepted (result_of c) ≡ true → length (result_of c).stream ≤ room_of c
call_fits (in_list_mode c) h = answer-fits c h
call_fits (in_signature_mode c) h = signed.answer-fits c h

without-17 : Without17
without-17 = record { never = λ c z. (call-regular c).possible.never17 (ap (λ (a : Answer). a.number) (answers-same c) ∙ z); same = answers-same }

numbers : Numbers
numbers = record { most = λ c. (call-regular c).possible.most; of-stream = λ c e z. (call-regular c).possible.of9 z e }

positions : Positions
positions c = (call-regular c).positioned

enough-room : EnoughRoom
enough-room c h z = (call-regular c).possible.of16 z h

-- ---- measuring: as the call for the stream with an output that has room for all

-- as much room as is measured, and as the data set has bytes
abbrev room : Answer → List ℕ → List ℕ
room m set = replicate (m.length + length set) 0

room-long : (m : Answer) (set : List ℕ) → length (room m set) ≡ m.length + length set
room-long m set = length-replicate (m.length + length set) 0

module _ (c : EitherCall) (m : Answer) (set : List ℕ) (s : set_of c ≡ set) (r : room_of c ≡ length (room m set)) (n : (result_of c).expected ≡ Opt.none) (e : (result_of c).answer ≡ m) where
  number_is : m.number ≡ (result_of c).answer.number
  number_is = ap (λ (a : Answer). a.number) (sym e)

  measured-9 : m.number ≢ 9
  measured-9 z = numbers.of-stream c n (sym number_is ∙ z)

  measured-16 : m.number ≢ 16
  measured-16 z = enough-room c (omega (arith, ap length s, r, room-long m set)) (sym number_is ∙ z)

measured-fits : (m : Answer) (set : List ℕ) → m.length ≤ length (room m set)
measured-fits m set = omega (arith, room-long m set)

measures-as-stream : MeasuresAsStream
measures-as-stream = record {
  of-list = list-measured;
  of-signature = signature-measured;
  never-9-in-list = λ list set. let m = list_mode.measure list set in
      measured-9 (in_list_mode (list_mode.stream_call list set (room m set))) m set refl refl refl (list-measured list set (room m set) (measured-fits m set));
  never-16-in-list = λ list set. let m = list_mode.measure list set in
      measured-16 (in_list_mode (list_mode.stream_call list set (room m set))) m set refl refl refl (list-measured list set (room m set) (measured-fits m set));
  never-9-in-signature = λ uid which set. let m = signature_mode.measure uid which set in
      measured-9 (in_signature_mode (signature_mode.stream_call uid which set (room m set))) m set refl refl refl (signature-measured uid which set (room m set) (measured-fits m set));
  never-16-in-signature = λ uid which set. let m = signature_mode.measure uid which set in
      measured-16 (in_signature_mode (signature_mode.stream_call uid which set (room m set))) m set refl refl refl (signature-measured uid which set (room m set) (measured-fits m set));
}

accepted-output : AcceptedOutput
accepted-output c out h r =
    let a = call-accepted c h in
    let n = ap (λ (x : Answer). x.length) a in
    record {
      answers = a;
      first = output-stream (result_of c) out h n;
      later = output-rest (result_of c) out h n;
      room = output-room (result_of c) out h (omega (arith, call_fits c h));
    }

refused-output : RefusedOutput
refused-output c out h = record {
  nothing = (call-regular c).nothing (λ n. true≢false (sym (eq-eqb (result_of c).answer.number 0 n) ∙ h));
  untouched = output-refused (result_of c) out h;
}

verdict-exact : VerdictExact
verdict-exact c e x = says (result_of c) e x

pub theorems : Theorems
theorems = record {
  without-17 = without-17;
  numbers = numbers;
  positions = positions;
  accepted-output = accepted-output;
  refused-output = refused-output;
  verdict-exact = verdict-exact;
  checks-as-stream = checks-as-stream;
  measures-as-stream = measures-as-stream;
  never-longer = never-longer;
  enough-room = enough-room;
  signature-stream = signature-stream;
}
