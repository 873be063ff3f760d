-- `ends_at` meets its contract. Assumes nothing.
use Rattle.std.proofs.Common.{refl}
use Rattle.dataset.specs.Header.{ends_at}
use Rattle.dataset.proofs.header.ends_at.Goals as goal

pub returns : goal.returns
unfolding ends_at
returns c = refl
