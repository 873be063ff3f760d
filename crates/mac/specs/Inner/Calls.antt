-- For inner contracts; no part of what a reader has to believe: a call, by its expected digest; what signature mode selects, and what is written of it.
-- Assumes nothing.
use Rattle.std.specs.Prelude as code
use Rattle.std.specs.Prelude.{ℕ, ◌-◌, ◌≤◌, ◌≡◌, List, Some, Ok, Err, length, take, drop}
use Rattle.std.proofs.Math.Option.{Option}
use Rattle.answer.specs.declared.Answer.{Answer}
use Rattle.answer.specs.Step.{step_by, test_by}
use Rattle.dataset.specs.Reading.{size_limit}
use Rattle.selection.specs.declared.select.Selected.{Selected}
use Rattle.stream.specs.Walk as walk
use Rattle.mac.specs.Result.{Result, output_after}
use Rattle.mac.specs.ListMode as list_mode
use Rattle.mac.specs.SignatureMode as signature_mode
use Rattle.mac.specs.Inner.Verdict.{length_of, length_answer}

-- ---- a call, by its expected digest: what is answered, r, and left in the output

pub record Left (c : Result) (out : List ℕ) (r : code.Result ℕ Answer) (after : List ℕ) : Type 0 where
  pub answers : r ≡ step_by c.answer
  pub output : after ≡ output_after c out

-- for each expected digest of the length that is given
pub record CallAnswered (call : Option (List ℕ) → Result) (given : code.Option ℕ) (most : ℕ) (out : List ℕ) (r : code.Result ℕ Answer) (after : List ℕ) : Type 0 where
  pub streamed : (expected : Option (List ℕ)) → length_of expected ≡ given → Left (call expected) out r after
  pub long : (expected : Option (List ℕ)) (n : ℕ) → r ≡ Ok n → n ≡ length (call expected).stream
  pub room : (n : ℕ) → r ≡ Ok n → n ≤ length out
  pub short : (n : ℕ) → r ≡ Ok n → n ≤ most

-- list mode
abbrev pub list_call : (list d out : List ℕ) → Option (List ℕ) → Result
list_call list d out expected = list_mode.result (record { list = list; set = d; room = length out; expected = expected })

-- signature mode
abbrev pub signature_call : (uid : List ℕ) (which : code.Option ℕ) (d out : List ℕ) → Option (List ℕ) → Result
signature_call uid which d out expected = signature_mode.result (record { uid = uid; which = which; set = d; room = length out; expected = expected })

-- ---- what is selected: a refusal, f; or what lies where s says

pub record SelectionRefused (uid : List ℕ) (which : code.Option ℕ) (d : List ℕ) (f : Answer) : Type 0 where
  pub number : f.number ≡ 0 → ⊥
  pub answers : f ≡ signature_mode.answer_to15 uid which d

-- the list of what is selected
abbrev pub list_in : List ℕ → Selected → List ℕ
list_in d s = take (s.end - s.start) (drop s.start d)

pub record SelectionLies (uid : List ℕ) (which : code.Option ℕ) (d : List ℕ) (s : Selected) : Type 0 where
  pub order : s.start ≤ s.end
  pub inside : s.end ≤ length d
  pub small : length d ≤ size_limit
  pub answers : signature_mode.answer_to15 uid which d ≡ walk.answer_to15 (list_in d s) d s.signed (Some s.item)
  pub stream-is : signature_mode.stream_in uid which d ≡ walk.stream_in (list_in d s) d s.signed (Some s.item)

abbrev pub SignatureSelected : (uid : List ℕ) (which : code.Option ℕ) (d : List ℕ) → code.Result Selected Answer → Type 0
SignatureSelected uid which d (Err f) = SelectionRefused uid which d f
SignatureSelected uid which d (Ok s) = SelectionLies uid which d s

-- ---- what is written of it: the stream; 9 by the length of the expected digest

abbrev pub SelectedWritten : (d : List ℕ) (s : Selected) (given : code.Option ℕ) (out : List ℕ) (r : code.Result ℕ Answer) (after : List ℕ) → Type 0
SelectedWritten d s given out r after = walk.WrittenAs (list_in d s) d s.signed (Some s.item) (test_by (length_answer s.algorithm given)) out r after
