-- For inner contracts; no part of what a reader has to believe: the checks that come first in an element's, an item's and a fragment's place.
-- Assumes nothing.
use Rattle.std.specs.Prelude.{ℕ, ◌+◌, ◌-◌, Bool, List, Option, Some, None, Result, Ok, Err, ltb, if◌then◌else◌}
use Rattle.answer.specs.declared.Answer.{Answer}
use Rattle.dataset.specs.Header.{fault_at, outside, ends_at, closed_by}

-- a refusal; the offset of what follows the end; or none, where nothing ends at `at`
unfoldable pub end_at : List ℕ → (delimiter : ℕ) (delimited : Bool) (stop at : ℕ) → Result (Option ℕ) Answer
end_at d delimiter delimited stop at =
    if outside d stop at then Err (fault_at 2 at) else
    if ends_at delimited stop at then Ok (Some at) else
    if ltb (stop - at) 8 then Err (fault_at 2 at) else
    if closed_by d delimiter delimited at then Ok (Some (at + 8)) else
    Ok None
