use Rattle.digest.specs.Sha256.{word_of}
use Rattle.digest.proofs.sha256.word.Goals as goal

pub returns : goal.returns
unfolding word_of
returns c = c.from_be_bytes.ensures
