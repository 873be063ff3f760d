-- `measured` meets its contract: each place by its law in ListMode. Assumes nothing.
use Rattle.std.proofs.lemmas.Result.{err_from_is_err_and}
use Rattle.mac.proofs.Laws.ListMode.ListMode as steps
use Rattle.dataset.proofs.Laws.Reading.Loops.{size-passed}
use Rattle.mac.proofs.list_mode.measured.Goals as goal

pub returns-in_err-size_answer : goal.returns-in_err-size_answer
returns-in_err-size_answer c =
    let p = err_from_is_err_and c.from_residual.result c.from_residual.ensures.1 in
    rw (p.1, p.2) (search (steps.list_over, c.in_err-size_answer.was))

pub returns : goal.returns
returns c = let q = c.in_ok-size_answer.was in let h = size-passed _ _ c.size_answer.ensures _ q in search steps.list-measured
