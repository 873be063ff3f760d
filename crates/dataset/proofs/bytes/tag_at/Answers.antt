-- `tag_at` meets its contract: by arithmetic. Assumes nothing.
use native.Mathlib.Omega.{arith}
use Rattle.dataset.specs.Bytes.{tag_at}
use Rattle.dataset.proofs.bytes.tag_at.Goals as goal

pub returns : goal.returns
unfolding tag_at
returns c = omega arith
