use Rattle.std.proofs.Common.{arith, length, refl, ◌≡◌, ◌/◌}
use Rattle.digest.specs.Sha256.{constants, compressed}
use Rattle.digest.specs.Message.{chain, after_blocks}
use Rattle.digest.proofs.Laws.Running.Chain.{chain-next}
use Rattle.digest.proofs.sha256.after_blocks.Goals as goal

pub loop-block-init : goal.loop-block-init
unfolding chain
loop-block-init c = refl

pub compressed-next-requires : goal.compressed-next-requires
unfolding constants
compressed-next-requires c = refl

pub loop-block-preserved : goal.loop-block-preserved
loop-block-preserved c =
    chain-next compressed _ _ _ _ _ _ c.loop-block.block-index c.as_chunks.ensures.front c.as_chunks.ensures.front_len (omega arith)
    c.loop-block.invariant c.compressed-next.ensures

pub returns : goal.returns
unfolding after_blocks
returns c =
    let all : c.loop-block.block-index ≡ length c.args.bytes.now / 64 = omega arith in
    rw all at c.loop-block.invariant
