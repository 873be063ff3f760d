-- For inner contracts; no part of what a reader has to believe: which elements are kept.
-- Assumes nothing.
use Rattle.std.specs.Prelude.{ℕ, Bool, true, false, not, eqb}
use Rattle.dataset.specs.Header.{ElementHeader}
use Rattle.stream.specs.TagList.{barred}
use Rattle.stream.specs.declared.keep.Keep.{Keep}
use Rattle.stream.specs.declared.keep.Keep.TheVariants as keep

abbrev pub keeps : Keep → (tag : ℕ) → Bool
keeps keep.Unbarred tag = not (barred tag)
keeps (keep.Only wanted) tag = eqb tag wanted
keeps keep.Nothing tag = false

-- by the header of an element; where there is no element nothing is kept
abbrev pub keeps_header : Keep → ElementHeader → Bool
keeps_header k (ElementHeader.refused a) = false
keeps_header k (ElementHeader.ends next) = false
keeps_header k (ElementHeader.value tag vr start end) = keeps k tag
keeps_header k (ElementHeader.sequence tag start end delimited) = keeps k tag
keeps_header k (ElementHeader.fragments tag start) = keeps k tag

-- each element
unfoldable pub every : (tag : ℕ) → Bool
every tag = true
