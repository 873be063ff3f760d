-- `too_deep` meets its contract. Assumes nothing.
use Rattle.std.proofs.Common.{refl}
use Rattle.dataset.specs.Header.{too_deep}
use Rattle.dataset.proofs.header.too_deep.Goals as goal

pub returns : goal.returns
unfolding too_deep
returns c = refl
