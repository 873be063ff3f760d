-- `signature_stream` meets its contract. Assumes nothing.
use Rattle.mac.proofs.Laws.SignatureMode.SignatureMode as steps
use Rattle.mac.proofs.signature_mode.signature_stream.Goals as goal

pub returns : goal.returns
returns c = search (steps.signature-streamed, c.type_inv.d)
