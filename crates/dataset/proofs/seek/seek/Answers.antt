-- `seek` meets its contract: each place by its law in SeekLoop. Assumes nothing.
use Rattle.std.proofs.lemmas.Result.{err_from_is_err_and}
use Rattle.dataset.proofs.Laws.Seek.SeekLoop as steps
use Rattle.dataset.proofs.Laws.Extent.Outside.{inside-lies}
use Rattle.dataset.proofs.seek.seek.Goals as goal

pub returns-in_err-outside_answer : goal.returns-in_err-outside_answer
returns-in_err-outside_answer c =
    let p = err_from_is_err_and c.from_residual.result c.from_residual.ensures.1 in
    rw (p.1, p.2) (search (steps.seek-outside, c.in_err-outside_answer.was))

pub invariant_of-seek_in : goal.invariant_of-seek_in
invariant_of-seek_in c = search (inside-lies, c.in_ok-outside_answer.was)
