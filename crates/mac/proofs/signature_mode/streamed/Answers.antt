-- `streamed` meets its contract: each place by its law in SignatureMode. Assumes nothing.
use Rattle.std.proofs.lemmas.Result.{err_from_is_err_and}
use Rattle.mac.proofs.Laws.SignatureMode.SignatureMode as steps
use Rattle.mac.proofs.signature_mode.streamed.Goals as goal

pub returns-in_err-selected : goal.returns-in_err-selected
returns-in_err-selected c =
    let p = err_from_is_err_and c.from_residual.result c.from_residual.ensures.1 in
    rw (p.1, p.2) (search (steps.refused-call, c.in_err-selected.was))

pub write_selected-requires : goal.write_selected-requires
write_selected-requires c = let q = c.in_ok-selected.was in search (steps.selected-order, steps.selected-inside)

pub returns : goal.returns
returns c = let q = c.in_ok-selected.was in search steps.selected-call
