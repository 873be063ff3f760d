use Rattle.std.proofs.Common.{arith}
use Rattle.answer.specs.Step.{test_by}
use Rattle.stream.specs.TagList.{ascending_answer}
use Rattle.stream.proofs.Laws.TagList.TagsFrom.{tags-more, tags-none}
use Rattle.stream.proofs.tag_list.order_answer.Goals as goal

pub returns-then-tag-least : goal.returns-then-tag-least
unfolding ascending_answer test_by
returns-then-tag-least c = grind (arith, tags-more)

pub loop-index-preserved : goal.loop-index-preserved
unfolding ascending_answer
loop-index-preserved c = grind (arith, tags-more)

pub returns : goal.returns
unfolding ascending_answer test_by
returns c = grind (arith, tags-none)
