-- `signature_measure` meets its contract. Assumes nothing.
use Rattle.mac.proofs.Laws.SignatureMode.SignatureMode as steps
use Rattle.mac.proofs.signature_mode.signature_measure.Goals as goal

pub returns : goal.returns
returns c = search steps.measure-whole
