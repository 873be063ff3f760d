-- `answer_words` meets its contract. Assumes nothing.
use Rattle.std.proofs.Common.{refl}
use Rattle.eddyplume.proofs.c_values.answer_words.Goals as goal

pub returns : goal.returns
returns c = refl
