use lib.Bits.{bit_xor}
use Rattle.digest.specs.Words as Words
use Rattle.digest.proofs.words.big_sigma0.Goals as goal

pub returns : goal.returns
unfolding Words.big_sigma0
returns c = λ i. bit_xor (bit_xor (c.rotate_right.ensures i) (c.rotate_right-2.ensures i)) (c.rotate_right-3.ensures i)
