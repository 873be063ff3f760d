use Rattle.std.proofs.Common.{arith}
use Rattle.answer.specs.Step.{test_by}
use Rattle.stream.specs.TagList.{unbarred_answer}
use Rattle.stream.proofs.Laws.TagList.TagsFrom.{tags-more, tags-none}
use Rattle.stream.proofs.tag_list.barred_answer.Goals as goal

pub returns-then-is_barred : goal.returns-then-is_barred
unfolding unbarred_answer test_by
returns-then-is_barred c = grind (arith, tags-more)

pub loop-index-preserved : goal.loop-index-preserved
unfolding unbarred_answer
loop-index-preserved c = grind (arith, tags-more)

pub returns : goal.returns
unfolding unbarred_answer test_by
returns c = grind (arith, tags-none)
