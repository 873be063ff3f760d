-- `measure` meets its contract: each place by its law in Measuring. Assumes nothing.
use Rattle.std.proofs.Common.{arith}
use Rattle.answer.specs.Answer.{◌or_else◌}
use Rattle.answer.specs.Step.{step_by, test_by}
use Rattle.dataset.proofs.Laws.Extent.Outside.{inside-lies, outside-fault}
use Rattle.stream.specs.Walk.{measure, answer_to15, read_answer, stream_in}
use Rattle.stream.specs.Inner.Walk.{walk_answer}
use Rattle.stream.proofs.Laws.Walk.Measuring as steps
use Rattle.stream.proofs.walk.measure.Goals as goal

pub returns-in_err-list_answer : goal.returns-in_err-list_answer
unfolding measure answer_to15 ◌or_else◌ step_by test_by
returns-in_err-list_answer c = grind arith

pub returns-in_err-outside_answer : goal.returns-in_err-outside_answer
unfolding measure answer_to15 read_answer ◌or_else◌ step_by test_by
returns-in_err-outside_answer c = grind (arith, outside-fault)

pub invariant_of-write_stream : goal.invariant_of-write_stream
invariant_of-write_stream c = search (inside-lies, c.in_ok-outside_answer.was)

pub write_stream-requires : goal.write_stream-requires
write_stream-requires c = search (steps.passed-ascends, c.in_ok-list_answer.was)

pub returns : goal.returns
unfolding measure answer_to15 walk_answer stream_in ◌or_else◌ step_by test_by
returns c = grind (arith, c.write_stream.ensures.answers)
