-- Signature mode, a term of docs/RULES.md, 1.1: "for one of the signatures in the data set". Its stream (8.4), the order of the
-- numbers (9.5), and the call.
-- Assumes nothing.
use Rattle.std.specs.Prelude as code
use Rattle.std.specs.Prelude.{ℕ, List, [], length}
use Rattle.std.proofs.Math.Option.{Option, some}
use Rattle.std.proofs.Math.Option as Opt
use Rattle.answer.specs.declared.Answer.{Answer}
use Rattle.answer.specs.Answer.{accepted, refused, ◌or_else◌}
use Rattle.dataset.specs.Reading.{size_answer, data_set, answer_of, tree}
use Rattle.selection.specs.Selection.{Selection, refusal, selected, select}
use Rattle.stream.specs.TagList.{tags_in, list_answer}
use Rattle.stream.specs.Listed.{tags_answer}
use Rattle.stream.specs.Walk.{signed_stream}
use Rattle.mac.specs.Modes.{answer_from9}
use Rattle.mac.specs.Result.{Result}

-- ---- what is written

-- the stream, by what is selected: 8.4
unfoldable pub stream_by : Selection → (d : List ℕ) → List ℕ
stream_by (refusal number) d = []
stream_by (selected list algorithm es item) d = signed_stream (tags_in list) es item d

-- 9.5 from 18 on, up to 15: "18 to 23; 10; 11; 12; then for each tag in turn 13, 14, 15"
unfoldable pub selection_answer : Selection → Answer
selection_answer (refusal number) = refused number 0
selection_answer (selected list algorithm es item) = list_answer list or_else tags_answer 0 (tags_in list) es

-- what is selected in a data set: "18 to 23" (9.5)
abbrev pub selection_in : (uid : List ℕ) (which : code.Option ℕ) (set : List ℕ) → Selection
selection_in uid which set = select uid which (tree set) set

-- the stream of a signature in a data set
unfoldable pub stream_in : (uid : List ℕ) (which : code.Option ℕ) (set : List ℕ) → List ℕ
stream_in uid which set = stream_by (selection_in uid which set) set

-- 9.5 up to 15: "1; 2 to 8; 18 to 23; 10; 11; 12; then for each tag in turn 13, 14, 15". 1 stands in `data_set` too.
unfoldable pub answer_to15 : (uid : List ℕ) (which : code.Option ℕ) (set : List ℕ) → Answer
answer_to15 uid which set = size_answer set or_else answer_of (data_set set) or_else selection_answer (selection_in uid which set)

-- 7.9, what a measuring call answers: the order up to 15; or else "with number 0 the length is the stream's"
unfoldable pub measure : (uid : List ℕ) (which : code.Option ℕ) (set : List ℕ) → Answer
measure uid which set = answer_to15 uid which set or_else accepted (length (stream_in uid which set))

-- ---- a call

-- A call in signature mode, for the stream or for the check. 8.1: "the UID of the data set's transfer syntax"; a signature "by its number",
-- or none; the data set; the output room (a term of RULES 7.2: "how many bytes the output has, or in a check the work buffer"); and the
-- expected digest, which a call for the stream has not.
pub record Call : Type 0 where
  pub uid : List ℕ
  pub which : code.Option ℕ
  pub set : List ℕ
  pub room : ℕ
  pub expected : Option (List ℕ)

-- what the call selects
abbrev pub selection : Call → Selection
selection c = selection_in c.uid c.which c.set

-- the call's stream
abbrev pub stream : Call → List ℕ
stream c = stream_in c.uid c.which c.set

-- 9.5: the order up to 15; "then 9, 16"
unfoldable pub answer : Call → Answer
answer c = answer_to15 c.uid c.which c.set or_else answer_from9 (stream c) c.room c.expected

-- what the call comes to
abbrev pub result : Call → Result
result c = record { answer = answer c; stream = stream c; expected = c.expected }

-- ---- the calls that the functions make; what they promise of them is `Streamed` and `CheckedAs`

-- signature mode for the stream, into the output `out`
abbrev pub stream_call : (uid : List ℕ) (which : code.Option ℕ) (set out : List ℕ) → Call
stream_call uid which set out = record { uid = uid; which = which; set = set; room = length out; expected = Opt.none }

-- signature mode for the check, with the work buffer `work`
abbrev pub check_call : (uid : List ℕ) (which : code.Option ℕ) (set expected work : List ℕ) → Call
check_call uid which set expected work = record { uid = uid; which = which; set = set; room = length work; expected = some expected }
