-- `measured` meets its contract: each place by its law in SignatureMode. Assumes nothing.
use Rattle.std.proofs.lemmas.Result.{err_from_is_err_and}
use Rattle.mac.proofs.Laws.SignatureMode.SignatureMode as steps
use Rattle.mac.proofs.signature_mode.measured.Goals as goal

pub returns-in_err-s : goal.returns-in_err-s
returns-in_err-s c =
    let p = err_from_is_err_and c.from_residual.result c.from_residual.ensures.1 in
    rw (p.1, p.2) (search (steps.refused-measured, c.in_err-s.was))

pub returns : goal.returns
returns c = let q = c.in_ok-s.was in search steps.selected-measured
