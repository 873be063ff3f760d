use Rattle.std.proofs.Common.{rules}
use Rattle.digest.proofs.Laws.Padding.Padded.{padded-stores}
use Rattle.digest.proofs.padding.padded.Goals as goal

pub returns : goal.returns
returns c =
    padded-stores c.args.waiting.now c.args.bits _ _ 0x80 c.args.n (search rules) c.requires.0 c.requires.1 c.copy.ensures c.copy-2.ensures
