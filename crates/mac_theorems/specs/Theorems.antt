-- What is true of the two modes beside demand 3: statements that a reader of the definitions would ask for, all in the record Theorems,
-- proved in proofs/Theorems.antt.
-- Assumes nothing.
use Rattle.std.specs.Prelude as code
use Rattle.std.specs.Prelude.{ℕ, ◌≤◌, ◌<◌, ◌≡◌, ◌↔◌, ◌≢◌, true, false, List, ◌++◌, ltb, length, take, drop, if◌then◌else◌}
use Rattle.std.proofs.Math.Option.{some}
use Rattle.std.proofs.Math.Option as Opt
use Rattle.answer.specs.declared.Answer.{Answer}
use Rattle.answer.specs.Answer.{accepted, refused, ◌or_else◌}
use Rattle.dataset.specs.Tree.{Elements}
use Rattle.digest.specs.Message.{digest_of}
use Rattle.digest.specs.Sha256.{sha256}
use Rattle.stream.specs.TagList.{tags_in, list_answer}
use Rattle.stream.specs.Stream.{elements_stream}
use Rattle.mac.specs.Result.{Result, is_accepted, output_after, neither, same, differs, verdict_of}
use Rattle.mac.specs.ListMode as list_mode
use Rattle.selection.specs.Selection.{Algorithm, selected}
use Rattle.stream.specs.Own.{own}
use Rattle.mac.specs.SignatureMode as signature_mode
use Rattle.mac_theorems.specs.Calls.{EitherCall, in_list_mode, in_signature_mode, set_of, list_of, room_of, result_of}
use Rattle.mac_theorems.specs.Removed17.{Without17}

-- ---- every answer

-- the highest number of either mode
abbrev pub highest : EitherCall → ℕ
highest (in_list_mode c) = 16
highest (in_signature_mode c) = 23

-- no number is above the highest; 9 comes in a check only
pub record Numbers : Type 0 where
  pub most : (c : EitherCall) → (result_of c).answer.number ≤ highest c
  pub of-stream : (c : EitherCall) → (result_of c).expected ≡ Opt.none → (result_of c).answer.number ≢ 9

-- RULES, 9.2: "The position is, for 2 to 8, an offset in the data set; for 11 to 15 an index into the list, counted from 0, ..; for every
-- other number 0." An offset may be the data set's length, where a header is missing.
pub record Positioned (size count : ℕ) (a : Answer) : Type 0 where
  pub offset : 2 ≤ a.number → a.number ≤ 8 → a.position ≤ size
  pub index : 11 ≤ a.number → a.number ≤ 15 → a.position < count
  pub below2 : a.number < 2 → a.position ≡ 0
  pub of9and10 : 8 < a.number → a.number < 11 → a.position ≡ 0
  pub above15 : 15 < a.number → a.position ≡ 0

abbrev pub Positions : Type 0
Positions = (c : EitherCall) → Positioned (length (set_of c)) (length (tags_in (list_of c))) (result_of c).answer

-- 9.1: "With number 0 the position is 0." 7.3: "An accepted call puts the stream at the start of the output and changes no later byte; the
-- answer's length is the stream's." The output keeps its length.
pub record StreamIn (c : Result) (out : List ℕ) : Type 0 where
  pub answers : c.answer ≡ accepted (length c.stream)
  pub first : take c.answer.length (output_after c out) ≡ c.stream
  pub later : drop c.answer.length (output_after c out) ≡ drop c.answer.length out
  pub room : length (output_after c out) ≡ length out

abbrev pub AcceptedOutput : Type 0
AcceptedOutput = (c : EitherCall) (out : List ℕ) → is_accepted (result_of c) ≡ true → room_of c ≡ length out → StreamIn (result_of c) out

-- 7.3: "A refused call changes no byte of the output and has length 0."
pub record NothingIn (c : Result) (out : List ℕ) : Type 0 where
  pub nothing : c.answer.length ≡ 0
  pub untouched : output_after c out ≡ out

abbrev pub RefusedOutput : Type 0
RefusedOutput = (c : EitherCall) (out : List ℕ) → is_accepted (result_of c) ≡ false → NothingIn (result_of c) out

-- A check with the expected digest e says "same" exactly when it is accepted and the digest of its stream equals e, "differs" exactly when
-- it is accepted and the digest is another, and neither exactly when it is refused.
pub record Says (c : Result) (e : List ℕ) : Type 0 where
  pub says_same : (verdict_of c ≡ same) ↔ ((is_accepted c ≡ true) × (digest_of sha256 c.stream ≡ e))
  pub says-differs : (verdict_of c ≡ differs) ↔ ((is_accepted c ≡ true) × (digest_of sha256 c.stream ≢ e))
  pub says-neither : (verdict_of c ≡ neither) ↔ (is_accepted c ≡ false)

abbrev pub VerdictExact : Type 0
VerdictExact = (c : EitherCall) (e : List ℕ) → (result_of c).expected ≡ some e → Says (result_of c) e

-- a check with an expected digest of 32 bytes answers as the call for the stream does
pub record ChecksAsStream : Type 0 where
  pub of-list : (list set expected work : List ℕ) → length expected ≡ 32
      → list_mode.answer (list_mode.check_call list set expected work) ≡ list_mode.answer (list_mode.stream_call list set work)
  pub of-signature : (uid : List ℕ) (which : code.Option ℕ) (set expected work : List ℕ) → length expected ≡ 32
      → signature_mode.answer (signature_mode.check_call uid which set expected work)
      ≡ signature_mode.answer (signature_mode.stream_call uid which set work)

-- 7.9: a measuring call "has the answer that the call for the stream has with room enough", which is the length that is measured (0 for a
-- refusal); "9 and 16 cannot come"
pub record MeasuresAsStream : Type 0 where
  pub of-list : (list set out : List ℕ) → (list_mode.measure list set).length ≤ length out
      → list_mode.answer (list_mode.stream_call list set out) ≡ list_mode.measure list set
  pub of-signature : (uid : List ℕ) (which : code.Option ℕ) (set out : List ℕ) → (signature_mode.measure uid which set).length ≤ length out
      → signature_mode.answer (signature_mode.stream_call uid which set out) ≡ signature_mode.measure uid which set
  pub never-9-in-list : (list set : List ℕ) → (list_mode.measure list set).number ≢ 9
  pub never-16-in-list : (list set : List ℕ) → (list_mode.measure list set).number ≢ 16
  pub never-9-in-signature : (uid : List ℕ) (which : code.Option ℕ) (set : List ℕ) → (signature_mode.measure uid which set).number ≢ 9
  pub never-16-in-signature : (uid : List ℕ) (which : code.Option ℕ) (set : List ℕ) → (signature_mode.measure uid which set).number ≢ 16

-- ---- the length of the stream

-- 5.6: "No stream has more bytes than its data set.": wherever a list is there and not refused, so in every accepted call (where nothing is
-- selected the list is empty, so 10)
abbrev pub NeverLonger : Type 0
NeverLonger = (c : EitherCall) → (list_answer (list_of c)).number ≡ 0 → length (result_of c).stream ≤ length (set_of c)

-- so an output as long as the data set is always enough
abbrev pub EnoughRoom : Type 0
EnoughRoom = (c : EitherCall) → length (set_of c) ≤ room_of c → (result_of c).answer.number ≢ 16

-- ---- signature mode and list mode

-- list mode with the list that a call in signature mode selects
abbrev pub as_list : signature_mode.Call → (list : List ℕ) → list_mode.Call
as_list c list = record { list = list; set = c.set; room = c.room; expected = c.expected }

-- The stream is list mode's for the list that is selected, and after it the signature item's own elements. 9.5: "10; 11; 12; then for each
-- tag in turn 13, 14, 15; then 9, 16", as in list mode: where list mode refuses, signature mode gives the same answer; else only 16 can
-- come, for the whole stream.
pub record ListsFirst (c : signature_mode.Call) (list : List ℕ) (item : Elements) : Type 0 where
  pub streams : signature_mode.stream c ≡ list_mode.stream (as_list c list) ++ elements_stream (own item) c.set
  pub answers : signature_mode.answer c
      ≡ (list_mode.answer (as_list c list)
      or_else (if ltb c.room (length (signature_mode.stream c)) then refused 16 0 else accepted (length (signature_mode.stream c))))

abbrev pub SignatureStream : Type 0
SignatureStream =
    (c : signature_mode.Call) (list : List ℕ) (algorithm : Algorithm) (es item : Elements)
    → signature_mode.selection c ≡ selected list algorithm es item → ListsFirst c list item

-- all of them
pub record Theorems : Type 0 where
  pub without-17 : Without17
  pub numbers : Numbers
  pub positions : Positions
  pub accepted-output : AcceptedOutput
  pub refused-output : RefusedOutput
  pub verdict-exact : VerdictExact
  pub checks-as-stream : ChecksAsStream
  pub measures-as-stream : MeasuresAsStream
  pub never-longer : NeverLonger
  pub enough-room : EnoughRoom
  pub signature-stream : SignatureStream
