-- A call in either mode: its data set, its list (empty where none is selected), its output room, and what it comes to; and what a function
-- that makes it gives back.
-- Assumes nothing.
use Rattle.std.specs.Prelude as code
use Rattle.std.specs.Prelude.{ℕ, ◌≡◌, List, [], length}
use Rattle.answer.specs.declared.Answer.{Answer}
use Rattle.slices.specs.Lists.{OfBytes}
use Rattle.mac.specs.Result.{Result, neither, verdict_code, verdict_of, output_after, Streamed, CheckedAs}
use Rattle.mac.specs.ListMode as list_mode
use Rattle.selection.specs.Selection.{Selection, refusal, selected}
use Rattle.mac.specs.SignatureMode as signature_mode
use Rattle.mac.specs.declared.verdict.Checked.{Checked}

pub data EitherCall : Type 0 where
  in_list_mode : list_mode.Call → EitherCall
  in_signature_mode : signature_mode.Call → EitherCall

abbrev pub set_of : EitherCall → List ℕ
set_of (in_list_mode c) = c.set
set_of (in_signature_mode c) = c.set

abbrev pub selected_list : Selection → List ℕ
selected_list (refusal number) = []
selected_list (selected list algorithm es item) = list

abbrev pub list_of : EitherCall → List ℕ
list_of (in_list_mode c) = c.list
list_of (in_signature_mode c) = selected_list (signature_mode.selection c)

abbrev pub room_of : EitherCall → ℕ
room_of (in_list_mode c) = c.room
room_of (in_signature_mode c) = c.room

abbrev pub result_of : EitherCall → Result
result_of (in_list_mode c) = list_mode.result c
result_of (in_signature_mode c) = signature_mode.result c

-- ---- what a call gives back

-- The answer a; what the call says, as a number (a call for the stream says neither); and what it leaves in its output or work buffer `out`.
-- The data set is a list of bytes, since it was lent as one.
pub record Run (c : EitherCall) (out : List ℕ) (a : Answer) (said : ℕ) (after : List ℕ) : Type 0 where
  pub room : room_of c ≡ length out
  pub answers : a ≡ (result_of c).answer
  pub says : said ≡ verdict_of (result_of c)
  pub output : after ≡ output_after (result_of c) out
  pub bytes : OfBytes (set_of c)

-- what the four functions that write a stream promise is such a run
pub record PromisedRuns : Type 0 where
  pub list-stream : (list set out after : List ℕ) (r : Answer)
      → Streamed (list_mode.result (list_mode.stream_call list set out)) set out r after
      → Run (in_list_mode (list_mode.stream_call list set out)) out r neither after
  pub list-check : (list set expected work after : List ℕ) (r : Checked)
      → CheckedAs (list_mode.result (list_mode.check_call list set expected work)) set work r after
      → Run (in_list_mode (list_mode.check_call list set expected work)) work r.answer (verdict_code r.verdict) after
  pub signature-stream : (uid : List ℕ) (which : code.Option ℕ) (set out after : List ℕ) (r : Answer)
      → Streamed (signature_mode.result (signature_mode.stream_call uid which set out)) set out r after
      → Run (in_signature_mode (signature_mode.stream_call uid which set out)) out r neither after
  pub signature-check : (uid : List ℕ) (which : code.Option ℕ) (set expected work after : List ℕ) (r : Checked)
      → CheckedAs (signature_mode.result (signature_mode.check_call uid which set expected work)) set work r after
      → Run (in_signature_mode (signature_mode.check_call uid which set expected work)) work r.answer (verdict_code r.verdict) after
