use Rattle.digest.proofs.Laws.Running.WaitingArray.{filled-stores}
use Rattle.digest.proofs.running.filled.Goals as goal

pub returns : goal.returns
returns c = filled-stores c.args.waiting.now c.args.bytes.now _ _ c.requires c.copy.ensures c.copy-2.ensures
