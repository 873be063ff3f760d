use Rattle.std.proofs.lemmas.Result.{err_from_is_err_and}
use Rattle.answer.proofs.Laws.Steps.{value-is}
use Rattle.dataset.proofs.Laws.Seek.SeekLoop as steps
use Rattle.dataset.proofs.seek.seek_in.Goals as goal

pub loop-next-init : goal.loop-next-init
loop-next-init c = search steps.seek-start

pub returns-in_err-next : goal.returns-in_err-next
returns-in_err-next c =
    let p = err_from_is_err_and c.from_residual.result c.from_residual.ensures.1 in
    rw (p.1, p.2) (search (steps.seek-refused, c.in_err-next.was))

pub returns-in-End : goal.returns-in-End
returns-in-End c = let q = value-is _ _ _ c.in_ok-next.was c.in-End.is in search steps.seek-end

pub loop-next-smaller : goal.loop-next-smaller
loop-next-smaller c = let q = value-is _ _ _ c.in_ok-next.was c.in-Element.is in search steps.seek-less

pub loop-next-preserved : goal.loop-next-preserved
loop-next-preserved c = let q = value-is _ _ _ c.in_ok-next.was c.in-Element.is in search steps.seek-again
