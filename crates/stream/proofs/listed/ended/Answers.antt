-- `ended` meets its contract: by the tags from the index on. Assumes nothing.
use Rattle.std.proofs.Common.{arith}
use Rattle.stream.specs.Inner.Listed.{ended_of}
use Rattle.stream.proofs.Laws.TagList.TagsFrom.{tags-more, tags-none}
use Rattle.stream.proofs.listed.ended.Goals as goal

pub returns-then-list-before : goal.returns-then-list-before
unfolding ended_of
returns-then-list-before c = grind (arith, tags-none)

pub returns : goal.returns
unfolding ended_of
returns c = grind (arith, tags-more)
