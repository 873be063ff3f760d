-- `write_following` meets its contract: each place by its law in Following. Assumes nothing.
use Rattle.std.proofs.Common.{rules}
use Rattle.std.proofs.lemmas.Result.{err_from_is_err_and}
use Rattle.dataset.proofs.Laws.Extent.Outside.{inside-lies}
use Rattle.stream.proofs.Laws.Walk.Following as steps
use Rattle.stream.proofs.walk.write_following.Goals as goal

pub returns-in_err-outside_answer : goal.returns-in_err-outside_answer
returns-in_err-outside_answer c =
    let p = err_from_is_err_and c.from_residual.result c.from_residual.ensures.1 in rw (p.1, p.2) (search (steps.follows-outside, c.in_err-outside_answer.was))

pub invariant_of-write_own : goal.invariant_of-write_own
invariant_of-write_own c = search (inside-lies, c.in_ok-outside_answer.was)

pub write_own-requires : goal.write_own-requires
write_own-requires c = search rules

pub returns-in_err-written : goal.returns-in_err-written
returns-in_err-written c =
    let p = err_from_is_err_and c.from_residual-in_err-written.result c.from_residual-in_err-written.ensures.1 in
    rw (p.1, p.2) (search (steps.follows-refused, c.in_ok-outside_answer.was, c.in_err-written.was))

pub returns : goal.returns
returns c = search (steps.follows-written, c.in_ok-outside_answer.was, c.in_ok-written.was)
