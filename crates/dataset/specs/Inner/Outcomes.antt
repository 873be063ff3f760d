-- For inner contracts; no part of what a reader has to believe. What the readers of items, fragments and elements answer, what a reader
-- of one element makes of it, and what is found after one element more. Assumes nothing.
use Rattle.std.specs.Prelude.{ℕ, ◌-◌, Bool, Result, Ok, Err, if◌then◌else◌}
use Rattle.answer.specs.declared.Answer.{Answer}
use Rattle.dataset.specs.Tree.{tag_of, vr_of, span_of}
use Rattle.dataset.specs.Reading.{Reading, fault, read, One, ended, element}
use Rattle.dataset.specs.declared.lookup.Found.{Found}
use Rattle.dataset.specs.declared.reading.OneOutcome.{OneOutcome}
use Rattle.dataset.specs.declared.reading.OneOutcome.TheVariants as one

-- the fault, or the offset past what was read
abbrev pub outcome_of : {A : Type 0} → Reading A → Result ℕ Answer
outcome_of (fault f) = Err f
outcome_of (read a next) = Ok next

-- the fault, the end, or an element: the answer of the reader of one element
abbrev pub one_outcome_of : Reading One → Result OneOutcome Answer
one_outcome_of (fault f) = Err f
one_outcome_of (read ended next) = Ok (one.End next)
one_outcome_of (read (element e) next) = Ok (one.Element (tag_of e) (vr_of e) (span_of e).start (span_of e).end next)

-- an element that holds items or fragments, by the offset past them
unfoldable pub holding_of : (tag vr start : ℕ) (delimited : Bool) (next : ℕ) → OneOutcome
holding_of tag vr start delimited next = one.Element tag vr start (if delimited then next - 8 else next) next

-- what is found after one element more (`hit`: it has the tag)
unfoldable pub or_next : Found → (hit : Bool) → Found → Found
or_next f hit g = if f.present then f else if hit then g else f
