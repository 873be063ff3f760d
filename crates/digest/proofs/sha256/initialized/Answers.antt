use Rattle.std.proofs.Common.{refl}
use Rattle.digest.specs.Sha256.{initialized}
use Rattle.digest.proofs.sha256.initialized.Goals as goal

pub returns : goal.returns
unfolding initialized
returns c = refl
