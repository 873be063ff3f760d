-- `open_item` meets its contract: each place by its law in OneItem. Assumes nothing.
use Rattle.std.proofs.lemmas.Result.{err_from_is_err_and}
use Rattle.answer.proofs.Laws.Steps.{value-is}
use Rattle.dataset.proofs.Laws.Extent.OneItem as steps
use Rattle.dataset.proofs.extent.open_item.Goals as goal

pub returns-in_err-next : goal.returns-in_err-next
returns-in_err-next c =
    let p = err_from_is_err_and c.from_residual.result c.from_residual.ensures.1 in rw (p.1, p.2) (search (steps.item_refused, c.in_err-next.was))

pub returns-in-End : goal.returns-in-End
returns-in-End c = search (steps.item-ends, value-is, c.in_ok-next.was)

pub returns-in-Item : goal.returns-in-Item
returns-in-Item c = search (steps.item-lies, value-is, c.in_ok-next.was)
