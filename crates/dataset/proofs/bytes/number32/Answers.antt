-- `number32` meets its contract: the four bytes are the two numbers of two. Assumes nothing.
use Rattle.std.proofs.Common.{arith, ◌≡◌, ◌+◌}
use Rattle.dataset.specs.Bytes.{num16, num32}
use Rattle.dataset.proofs.bytes.number32.Goals as goal

pub returns : goal.returns
unfolding num16 num32
returns c = let e : c.args.i + 2 + 1 ≡ c.args.i + 3 = omega arith in rw e (omega (arith, c.from_le_bytes.ensures))
