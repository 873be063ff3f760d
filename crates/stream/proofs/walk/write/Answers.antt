-- `write` meets its contract: by its definition, and where it writes by WriteMeasured. Assumes nothing.
use Rattle.std.proofs.Common.{arith, refl}
use Rattle.std.proofs.lemmas.Result.{err_from_is_err_and}
use Rattle.answer.specs.Answer.{◌or_else◌}
use Rattle.answer.specs.Step.{step_by, test_by}
use Rattle.stream.specs.Walk.{measure, write_step, answer_from16}
use Rattle.stream.proofs.Laws.Walk.Measuring as measured
use Rattle.stream.proofs.Laws.Walk.WriteMeasured as steps
use Rattle.stream.proofs.walk.write.Goals as goal

pub returns-in_err-length : goal.returns-in_err-length
unfolding measure write_step ◌or_else◌ step_by test_by
returns-in_err-length c =
    let p = err_from_is_err_and c.from_residual.result c.from_residual.ensures.1 in
    rw (p.1, p.2) record { answers = grind arith; output = refl; short = tt }

pub returns-in-Err : goal.returns-in-Err
unfolding measure write_step ◌or_else◌ step_by test_by
returns-in-Err c = record { answers = grind arith; output = refl; short = tt }

pub returns-then-out-length : goal.returns-then-out-length
unfolding measure write_step answer_from16 ◌or_else◌ step_by test_by
returns-then-out-length c = record { answers = grind arith; output = refl; short = tt }

pub invariant_of-write_stream : goal.invariant_of-write_stream
invariant_of-write_stream c = search (measured.measured-lies, c.in_ok-length.was)

pub write_stream-requires : goal.write_stream-requires
write_stream-requires c = search (measured.measured-ascends, c.in_ok-length.was)

pub returns : goal.returns
returns c = search (steps.write-written, c.in_ok-length.was)
