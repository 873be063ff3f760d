use Rattle.std.proofs.lemmas.Result.{err_from_is_err_and}
use Rattle.stream.proofs.Laws.Writer.FragmentsLoop as steps
use Rattle.stream.proofs.writer.write_fragments.Goals as goal

pub loop-next-init : goal.loop-next-init
loop-next-init c = search steps.fragments-start

pub returns-in_err-next : goal.returns-in_err-next
returns-in_err-next c =
    let p = err_from_is_err_and c.from_residual.result c.from_residual.ensures.1 in
    let e = c.in_err-next.ensures in
    rw (p.1, p.2) (search steps.fragments-refused)

pub returns-in-End : goal.returns-in-End
returns-in-End c = let e = c.in_ok-next.ensures in search steps.fragments-end

pub write_fragment-requires : goal.write_fragment-requires
write_fragment-requires c = let e = c.in_ok-next.ensures in (search steps.fragment-room, search steps.fragment-order, search steps.fragment-inside)

pub overflow_sub-to : goal.overflow_sub-to
overflow_sub-to c = let e = c.in_ok-next.ensures in search steps.fragment-order

pub overflow_add-to-in-Item : goal.overflow_add-to-in-Item
overflow_add-to-in-Item c = let e = c.in_ok-next.ensures in search steps.fragment-fits

pub loop-next-smaller : goal.loop-next-smaller
loop-next-smaller c = let e = c.in_ok-next.ensures in search steps.fragment-less

pub loop-next-preserved : goal.loop-next-preserved
loop-next-preserved c = let e = c.in_ok-next.ensures in search steps.fragment-again
