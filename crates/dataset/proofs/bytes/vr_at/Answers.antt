-- `vr_at` meets its contract: by arithmetic. Assumes nothing.
use native.Mathlib.Omega.{arith}
use Rattle.dataset.specs.Bytes.{vr_at}
use Rattle.dataset.proofs.bytes.vr_at.Goals as goal

pub returns : goal.returns
unfolding vr_at
returns c = omega arith
