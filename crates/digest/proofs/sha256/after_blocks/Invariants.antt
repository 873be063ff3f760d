use Rattle.std.proofs.Common.{◌≡◌}
use Rattle.digest.specs.Sha256.{compressed}
use Rattle.digest.specs.Message.{chain}
use Rattle.digest.proofs.sha256.after_blocks.Given as goal

abbrev pub invariant-loop-block : goal.invariant-loop-block
invariant-loop-block l = l.h ≡ chain compressed l.block-index l.initial.h l.bytes
