use Rattle.std.proofs.lemmas.Result.{err_from_is_err_and}
use Rattle.stream.proofs.Laws.Writer.ElementsLoop as loop
use Rattle.stream.proofs.Laws.Own.OwnLoop as steps
use Rattle.stream.proofs.own.write_own.Goals as goal

pub loop-seen-init : goal.loop-seen-init
loop-seen-init c = search loop.loop-start

pub returns-in_err-seen : goal.returns-in_err-seen
returns-in_err-seen c =
    let p = err_from_is_err_and c.from_residual.result c.from_residual.ensures.1 in
    let e = c.in_err-seen.ensures in
    rw (p.1, p.2) (search loop.loop-refused)

pub returns-in_err-next : goal.returns-in_err-next
returns-in_err-next c =
    let p = err_from_is_err_and c.from_residual-in_err-next.result c.from_residual-in_err-next.ensures.1 in
    let e = c.in_err-next.ensures in
    rw (p.1, p.2) (search loop.loop-refused)

pub returns-in-End : goal.returns-in-End
returns-in-End c = let e = c.in_ok-next.ensures in search steps.own-end

pub loop-seen-smaller : goal.loop-seen-smaller
loop-seen-smaller c = let e = c.in_ok-next.ensures in search loop.loop-less

pub loop-seen-preserved : goal.loop-seen-preserved
loop-seen-preserved c = let e = c.in_ok-next.ensures in let s = c.in_ok-seen.ensures in search steps.own-again
