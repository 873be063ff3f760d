-- For inner contracts; no part of what a reader has to believe: the walk over list and data set.
-- Assumes nothing.
use Rattle.std.specs.Prelude.{ℕ, ◌+◌, ◌≤◌, ◌≡◌, List, [], ◌∷◌, Result, Ok, Err, ltb, length, if◌then◌else◌}
use Rattle.std.specs.Result.{IfOk}
use Rattle.std.proofs.lemmas.List.Edits.{sets}
use Rattle.answer.specs.declared.Answer.{Answer}
use Rattle.answer.specs.Answer.{accepted, refused, ◌or_else◌}
use Rattle.answer.specs.Refusal.{number_of}
use Rattle.answer.specs.Step.{step_by}
use Rattle.answer.specs.declared.refusal.Refusal.{Refusal}
use Rattle.answer.specs.declared.refusal.Refusal.TheVariants as refusal
use Rattle.dataset.specs.Tree.{Elements}
use Rattle.dataset.specs.Reading.{Reading, fault, read}
use Rattle.stream.specs.TagList.{tags_in}
use Rattle.stream.specs.Stream.{listed_stream}
use Rattle.stream.specs.Listed.{tags_answer}
use Rattle.dataset.specs.Extent.{elements_in}
use Rattle.dataset.specs.declared.extent.Extent.{Extent}
use Rattle.stream.specs.declared.listed.Listed.{Listed}
use Rattle.stream.specs.declared.listed.Passed.{Passed}
use Rattle.stream.specs.declared.keep.Keep.{Keep}
use Rattle.stream.specs.declared.keep.Keep.TheVariants as keep

-- the answer by the reading of the data set: its fault; or else what was found before, or else the first of 13, 14, 15 for the tags from
-- `index` on, or else the length of the stream
unfoldable pub listed_answer : (found : Answer) (index : ℕ) (tags d : List ℕ) → Reading Elements → Answer
listed_answer found index tags d (fault f) = f
listed_answer found index tags d (read es next) = found or_else tags_answer index tags es or_else accepted (found.length + length (listed_stream tags es d))

-- the output before and after: where the answer is accepted, the stream of these tags is written after that of the tags before them
unfoldable pub ListedLeaves : (found : Answer) (index : ℕ) (tags d : List ℕ) → Reading Elements → (before after : List ℕ) → Type 0
ListedLeaves found index tags d (fault f) before after = Unit {0}
ListedLeaves found index tags d (read es next) before after =
    (listed_answer found index tags d (read es next)).number ≡ 0 → after ≡ sets before found.length (listed_stream tags es d)

-- r is the step: the length of the stream, or the refusal
pub record ListWalk (list d : List ℕ) (x : Extent) (r : Result ℕ Answer) (before after : List ℕ) : Type 0 where
  pub answers : r ≡ step_by (listed_answer (accepted 0) 0 (tags_in list) d (elements_in d x))
  pub output : ListedLeaves (accepted 0) 0 (tags_in list) d (elements_in d x) before after
  pub short : IfOk r (λ n. n ≤ length d)

-- the element that is wanted next, by the tags that are left
unfoldable pub next_listed : (tags : List ℕ) → Keep
next_listed [] = keep.Nothing
next_listed (wanted ∷ tags) = keep.Only wanted

-- the same behind an element of this tag, by the tags that are left then: still the same where that element stood before it
unfoldable pub wanted_behind : Keep → (tag : ℕ) (tags : List ℕ) → Keep
wanted_behind keep.Unbarred tag tags = next_listed tags
wanted_behind (keep.Only wanted) tag tags = if ltb tag wanted then keep.Only wanted else next_listed tags
wanted_behind keep.Nothing tag tags = next_listed tags

-- a refusal: no tag of the `count` tags is wanted any more
abbrev pub stopped_of : (count : ℕ) (why : Refusal) (index : ℕ) → Listed
stopped_of count why index = record { index = count; so_far = Err (refused (number_of why) index) }

-- what is found after one element more, by which element was wanted
unfoldable pub merged_of : (count : ℕ) → Keep → Listed → Passed → Listed
merged_of count keep.Unbarred s e = s
merged_of count (keep.Only wanted) s e =
    if ltb e.tag wanted then s else
    if ltb wanted e.tag then stopped_of count refusal.MissingElement s.index else
    if e.is_un then stopped_of count refusal.IsUn s.index else
    if e.holds_un then stopped_of count refusal.HoldsUn s.index else
    record { index = s.index + 1; so_far = Ok e.to }
merged_of count keep.Nothing s e = s

-- what is found at the end of the data set
unfoldable pub ended_of : (tags : List ℕ) → Listed → Result ℕ Answer
ended_of [] s = s.so_far
ended_of (wanted ∷ tags) s = Err (refused 13 s.index)
