use Rattle.std.proofs.Common.{refl}
use Rattle.digest.specs.Sha256.{start_words}
use Rattle.digest.specs.Running.{start}
use Rattle.digest.proofs.running.Running.start.Goals as goal

pub returns : goal.returns
unfolding start start_words
returns c = refl
