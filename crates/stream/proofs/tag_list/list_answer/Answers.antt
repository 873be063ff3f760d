-- `list_answer` meets its contract: by its definition. Assumes nothing.
use Rattle.std.proofs.Common.{arith}
use Rattle.answer.specs.Answer.{◌or_else◌}
use Rattle.answer.specs.Step.{test_by}
use Rattle.stream.specs.TagList.{list_answer}
use Rattle.stream.proofs.tag_list.list_answer.Goals as goal

pub returns-then-bad_size : goal.returns-then-bad_size
unfolding list_answer ◌or_else◌ test_by
returns-then-bad_size c = grind arith

pub returns-in_err-order_answer : goal.returns-in_err-order_answer
unfolding list_answer ◌or_else◌ test_by
returns-in_err-order_answer c = grind arith

pub returns : goal.returns
unfolding list_answer ◌or_else◌ test_by
returns c = grind arith
