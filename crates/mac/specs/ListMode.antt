-- List mode, a term of docs/RULES.md, 1.1: "the MAC stream, from a list of tags alone". 1.5: "List mode takes in no fields of a
-- signature." One definition of the answer, for the stream and for the check; its order
-- up to 15 is measuring's too.
-- Assumes nothing.
use Rattle.std.specs.Prelude.{ℕ, List, length}
use Rattle.std.proofs.Math.Option.{Option, some}
use Rattle.std.proofs.Math.Option as Opt
use Rattle.answer.specs.declared.Answer.{Answer}
use Rattle.answer.specs.Answer.{accepted, ◌or_else◌}
use Rattle.dataset.specs.Reading.{size_answer, data_set, answer_of, tree}
use Rattle.stream.specs.TagList.{tags_in, list_answer}
use Rattle.stream.specs.Content.{SignedElements, content}
use Rattle.stream.specs.Stream.{listed_stream}
use Rattle.stream.specs.Listed.{tags_answer}
use Rattle.mac.specs.Modes.{answer_from9}
use Rattle.mac.specs.Result.{Result}

-- A call in list mode, for the stream or for the check: the list, the data set, the output room (a term of RULES 7.2: "how many bytes the
-- output has, or in a check the work buffer"), and the expected digest, which a call for the stream has not.
pub record Call : Type 0 where
  pub list : List ℕ
  pub set : List ℕ
  pub room : ℕ
  pub expected : Option (List ℕ)

-- 7.5: "By the signed content of a call the one is meant that its list has in its data set." It means something only where the data set is
-- well-formed and holds every listed tag; elsewhere the call is refused.
unfoldable pub content_of : Call → Option SignedElements
content_of c = content (tags_in c.list) (tree c.set) c.set

-- the stream of a list in a data set
unfoldable pub stream_in : (list set : List ℕ) → List ℕ
stream_in list set = listed_stream (tags_in list) (tree set) set

-- the call's stream
abbrev pub stream : Call → List ℕ
stream c = stream_in c.list c.set

-- 9.4 up to 15: "1; 10; 11 over the whole list; 12 over the whole list; 2 to 8; then for each tag in turn 13, 14, 15".
-- 1 stands in `data_set` too; here it comes before the list.
unfoldable pub answer_to15 : (list set : List ℕ) → Answer
answer_to15 list set =
    size_answer set
    or_else list_answer list
    or_else answer_of (data_set set)
    or_else tags_answer 0 (tags_in list) (tree set)

-- 7.9, what a measuring call answers: the order up to 15; or else "with number 0 the length is the stream's"
unfoldable pub measure : (list set : List ℕ) → Answer
measure list set = answer_to15 list set or_else accepted (length (stream_in list set))

-- 9.4: the order up to 15; "then 9, 16"
unfoldable pub answer : Call → Answer
answer c = answer_to15 c.list c.set or_else answer_from9 (stream c) c.room c.expected

-- what the call comes to
abbrev pub result : Call → Result
result c = record { answer = answer c; stream = stream c; expected = c.expected }

-- ---- the calls that the functions make; what they promise of them is `Streamed` and `CheckedAs`

-- list mode for the stream, into the output `out`
abbrev pub stream_call : (list set out : List ℕ) → Call
stream_call list set out = record { list = list; set = set; room = length out; expected = Opt.none }

-- list mode for the check, with the work buffer `work`
abbrev pub check_call : (list set expected work : List ℕ) → Call
check_call list set expected work = record { list = list; set = set; room = length work; expected = some expected }
