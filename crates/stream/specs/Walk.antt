-- What is signed by where it lies: the listed elements of the data set in an extent and, in signature mode, the signature item's own, by the
-- extent of the item. Its stream, the numbers 10 to 16 (RULES, 9.4, 9.5), and what is left in the output.
-- Assumes nothing.
use Rattle.std.specs.Prelude.{ℕ, ◌+◌, ◌≤◌, ◌≡◌, List, ◌++◌, Option, Some, None, Result, Ok, Err, eqb, ltb, length, drop, if◌then◌else◌}
use Rattle.std.specs.Result.{IfOk}
use Rattle.answer.specs.declared.Answer.{Answer}
use Rattle.answer.specs.Answer.{accepted, refused, ◌or_else◌}
use Rattle.answer.specs.Step.{step_by, test_by, ◌and_then◌}
use Rattle.dataset.specs.Tree.{Elements}
use Rattle.dataset.specs.Reading.{Reading, read, answer_of, tree_of}
use Rattle.dataset.specs.Extent.{elements_in}
use Rattle.dataset.specs.declared.extent.Extent.{Extent}
use Rattle.stream.specs.TagList.{tags_in, list_answer}
use Rattle.stream.specs.Stream.{elements_stream, listed_stream}
use Rattle.stream.specs.Listed.{tags_answer}
use Rattle.stream.specs.Own.{own}

-- the reading of the signature item; where there is none it has no elements. 1.5: "List mode takes in no fields of a signature."
abbrev pub item_reading : List ℕ → Option Extent → Reading Elements
item_reading d None = read Elements.none 0
item_reading d (Some x) = elements_in d x

-- 8.4: "After the listed elements the stream goes on with the signature item's own elements, by section 5."
unfoldable pub signed_stream : (tags : List ℕ) (es item : Elements) (d : List ℕ) → List ℕ
signed_stream tags es item d = listed_stream tags es d ++ elements_stream (own item) d

-- the stream of a list in the data set in x, and of the signature item
unfoldable pub stream_in : (list d : List ℕ) → Extent → Option Extent → List ℕ
stream_in list d x item = signed_stream (tags_in list) (tree_of (elements_in d x)) (tree_of (item_reading d item)) d

-- by the readings of the data set and of the signature item: "2 to 8; then for each tag in turn 13, 14, 15" (9.4), and the item's fault
unfoldable pub read_answer : (tags : List ℕ) (set item : Reading Elements) → Answer
read_answer tags set item = answer_of set or_else tags_answer 0 tags (tree_of set) or_else answer_of item

-- "10; 11 over the whole list; 12 over the whole list; 2 to 8; then for each tag in turn 13, 14, 15" (9.4). In signature mode (9.5) both data
-- sets were read before 18 to 23, so that neither's fault comes here (docs/DECISIONS.md, L17).
unfoldable pub answer_to15 : (list d : List ℕ) → Extent → Option Extent → Answer
answer_to15 list d x item = list_answer list or_else read_answer (tags_in list) (elements_in d x) (item_reading d item)

-- what measuring answers: that, or else the stream's length (7.9)
unfoldable pub measure : (list d : List ℕ) → Extent → Option Extent → Answer
measure list d x item = answer_to15 list d x item or_else accepted (length (stream_in list d x item))

-- 16: "the output room is less than the stream's length" (9.3). 7.3: "the answer's length is the stream's."
unfoldable pub answer_from16 : (stream : List ℕ) (room : ℕ) → Answer
answer_from16 stream room = (if ltb room (length stream) then refused 16 0 else accepted 0) or_else accepted (length stream)

-- how writing goes in the output room `room`; `later` is the test of what the caller refuses behind 15 and before 16: number 9, or none
unfoldable pub write_step : (list d : List ℕ) → Extent → Option Extent → (later : Result (Unit {0}) Answer) (room : ℕ) → Result ℕ Answer
write_step list d x item later room = test_by (answer_to15 list d x item) and_then later and_then step_by (answer_from16 (stream_in list d x item) room)

-- what a call with the answer a leaves in the output or work buffer `out`. 7.3: "An accepted call puts the stream at the start of the output
-- and changes no later byte; .. A refused call changes no byte of the output". 7.4, of a check: "7.3 holds of its work buffer in place of an
-- output."
unfoldable pub left_in : (a : Answer) (stream out : List ℕ) → List ℕ
left_in a stream out = if eqb a.number 0 then stream ++ drop (length stream) out else out

-- ---- what `write` promises: r is its step, the stream's length or the refusal, and `after` what it leaves. A refusal, of whatever it is,
-- changes no byte. List and item may lie anywhere, so that the bound is twice the data; that no stream is longer than its data set (5.6) is
-- said of the modes.

-- what a step leaves in the output
abbrev pub left_by : Result ℕ Answer → (stream out : List ℕ) → List ℕ
left_by (Ok length) stream out = left_in (accepted length) stream out
left_by (Err a) stream out = out

pub record WrittenAs (list d : List ℕ) (x : Extent) (item : Option Extent) (later : Result (Unit {0}) Answer) (out : List ℕ) (r : Result ℕ Answer) (after : List ℕ) : Type 0 where
  pub answers : r ≡ write_step list d x item later (length out)
  pub output : after ≡ left_by r (stream_in list d x item) out
  pub short : IfOk r (λ n. n ≤ length d + length d)
