-- For inner contracts; no part of what a reader has to believe: the walk over the signature item's own elements.
-- Assumes nothing.
use Rattle.std.specs.Prelude.{ℕ, ◌||◌, List, Result, if◌then◌else◌}
use Rattle.answer.specs.declared.Answer.{Answer}
use Rattle.dataset.specs.Tree.{Elements}
use Rattle.dataset.specs.Extent.{elements_in}
use Rattle.stream.specs.Inner.Writer.{walked, holds_none, Walk}
use Rattle.dataset.specs.declared.extent.Extent.{Extent}
use Rattle.stream.specs.declared.writer.Written.{Written}
use Rattle.stream.specs.TagList.{barred}
use Rattle.stream.specs.Stream.{elements_stream}
use Rattle.stream.specs.Own.{named, own}
use Rattle.stream.specs.declared.keep.Keep.{Keep}
use Rattle.stream.specs.declared.keep.Keep.TheVariants as keep
use Rattle.stream.specs.declared.writer.OneWritten.{OneWritten}
use Rattle.stream.specs.declared.writer.OneWritten.TheVariants as one

-- the stream of the signature item's own elements
unfoldable pub own_stream : Elements → List ℕ → List ℕ
own_stream es d = elements_stream (own es) d

-- the element that is kept, by what was read in its place
unfoldable pub own_keep : OneWritten → Keep
own_keep (one.End next) = keep.Nothing
own_keep (one.Element tag is_un holds next to) = if named tag || (barred tag || (is_un || holds)) then keep.Nothing else keep.Only tag

-- the walk over the signature item's own elements
abbrev pub OwnWalk : List ℕ → Extent → (to : ℕ) → Result Written Answer → (before after : List ℕ) → Type 0
OwnWalk d x to r before after = Walk (walked holds_none own_stream) own_stream (elements_in d x) d to r before after
