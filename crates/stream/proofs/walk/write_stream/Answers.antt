-- `write_stream` meets its contract: each place by its law in StreamWalk. Assumes nothing.
use Rattle.std.proofs.lemmas.Result.{err_from_is_err_and}
use Rattle.stream.proofs.Laws.Walk.StreamWalk as steps
use Rattle.stream.proofs.walk.write_stream.Goals as goal

pub returns-in_err-to : goal.returns-in_err-to
returns-in_err-to c =
    let p = err_from_is_err_and c.from_residual.result c.from_residual.ensures.1 in rw (p.1, p.2) (search (steps.all-refused, c.in_err-to.was))

pub returns-in-None : goal.returns-in-None
returns-in-None c = search (steps.listed-alone, c.in_ok-to.was)

pub returns-in-Some : goal.returns-in-Some
returns-in-Some c = search (steps.all-written, c.in_ok-to.was)
