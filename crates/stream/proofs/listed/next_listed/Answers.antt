-- `next_listed` meets its contract: by the tags from the index on. Assumes nothing.
use Rattle.std.proofs.Common.{arith}
use Rattle.stream.specs.Inner.Listed.{next_listed}
use Rattle.stream.proofs.Laws.TagList.TagsFrom.{tags-more, tags-none}
use Rattle.stream.proofs.listed.next_listed.Goals as goal

pub returns-then-list-index : goal.returns-then-list-index
unfolding next_listed
returns-then-list-index c = grind (arith, tags-none)

pub returns : goal.returns
unfolding next_listed
returns c = grind (arith, tags-more)
