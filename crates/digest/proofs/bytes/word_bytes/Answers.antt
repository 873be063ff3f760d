use Rattle.std.proofs.Common.{rules, tests, ◌/◌, ◌%◌}
use Rattle.slices.specs.Lists.{at}
use Rattle.digest.specs.Padding.{big_endian, byte_of, word_bytes}
use Rattle.digest.proofs.Laws.Bytes.{made-by, words-byte}
use Rattle.digest.proofs.bytes.word_bytes.Goals as goal

pub returns : goal.returns
unfolding word_bytes
returns c =
    let words = c.args.words.now in
    made-by _ _ (λ i. byte_of big_endian 4 (at words (i / 4)) (i % 4)) (λ x y q k. (search (rules, tests), words-byte words x y (search (rules, tests)))) _ 32 c.from_fn.ensures.items
