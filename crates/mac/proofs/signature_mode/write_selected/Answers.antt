-- `write_selected` meets its contract: each place by its law in SignatureMode. Assumes nothing.
use Rattle.mac.proofs.Laws.SignatureMode.SignatureMode as steps
use Rattle.mac.proofs.signature_mode.write_selected.Goals as goal

pub returns : goal.returns
returns c = search steps.selected-written
