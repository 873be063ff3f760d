use Rattle.std.proofs.Common.{refl}
use Rattle.digest.specs.Sha256.{added}
use Rattle.digest.proofs.sha256.added.Goals as goal

pub returns : goal.returns
unfolding added
returns c = refl
