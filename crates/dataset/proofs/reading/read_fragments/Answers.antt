use Rattle.std.proofs.Common.{refl, rules}
use Rattle.std.proofs.lemmas.Result.{err_from_is_err_and}
use Rattle.answer.proofs.Laws.Steps.{value-is}
use Rattle.dataset.proofs.Laws.Reading.Loops as steps
use Rattle.dataset.proofs.reading.read_fragments.Goals as goal

pub loop-next-init : goal.loop-next-init
loop-next-init c = record { inside = search rules; same = refl }

pub returns-in_err-next : goal.returns-in_err-next
returns-in_err-next c =
    let p = err_from_is_err_and c.from_residual.result c.from_residual.ensures.1 in
    rw (p.1, p.2) (search (steps.fragments-refused, c.in_err-next.was))

pub returns-in-End : goal.returns-in-End
returns-in-End c = search (steps.fragments-end, value-is, c.in_ok-next.was)

pub loop-next-smaller : goal.loop-next-smaller
loop-next-smaller c = let q = value-is _ _ _ c.in_ok-next.was c.in-Item.is in search steps.fragments-less

pub loop-next-preserved : goal.loop-next-preserved
loop-next-preserved c = let q = value-is _ _ _ c.in_ok-next.was c.in-Item.is in search steps.fragments-again
