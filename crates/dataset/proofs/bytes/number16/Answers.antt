-- `number16` meets its contract: by arithmetic. Assumes nothing.
use native.Mathlib.Omega.{arith}
use Rattle.dataset.specs.Bytes.{num16}
use Rattle.dataset.proofs.bytes.number16.Goals as goal

pub returns : goal.returns
unfolding num16
returns c = omega arith
