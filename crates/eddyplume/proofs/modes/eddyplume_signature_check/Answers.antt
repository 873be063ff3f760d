-- `eddyplume_signature_check` meets its contract. Assumes nothing.
use Rattle.eddyplume.proofs.Laws.Boundary as steps
use Rattle.eddyplume.proofs.modes.eddyplume_signature_check.Goals as goal

pub returns : goal.returns
returns c = search (steps.checked-to, steps.same-check-call)
