use Rattle.std.proofs.Common.{List, ap, ap₂, arith, length-take-le, replicate, ℕ, ◌++◌, ◌-◌, ◌*◌, ◌∙◌, ◌∷◌}
use Rattle.digest.specs.Padding.{big_endian, word_bytes, padding}
use Rattle.digest.specs.Message.{after_blocks}
use Rattle.digest.specs.Sha256.{compressed}
use Rattle.digest.specs.Running.{finished, waiting_bytes}
use Rattle.digest.proofs.Laws.Bytes.{number-bytes}
use Rattle.digest.proofs.Laws.Padding.Padded.{fills}
use Rattle.digest.proofs.running.Running.finished.Goals as goal

-- `filled`: one block or two hold the waiting bytes and the padding.
pub padded-end-requires : goal.padded-end-requires
padded-end-requires c =
    let self = c.args.self.now in
    let filled = fills _ _ _ c.requires.counted c.padded_size-n.ensures in
    let w = length-take-le self.count self.waiting (omega (arith, c.requires.counted)) in
    (omega (arith, w, filled.least), filled.most)

pub returns : goal.returns
unfolding finished padding
returns c =
    let self = c.args.self.now in
    let n = c.padded_size-n.result in
    let filled = fills _ _ _ c.requires.counted c.padded_size-n.ensures in
    let w = length-take-le self.count self.waiting (omega (arith, c.requires.counted)) in
    let k = ap (λ (j : ℕ). n - 9 - j) w ∙ filled.zeros in
    let zeros = ap₂ (λ (k : ℕ) (z : List ℕ). waiting_bytes self ++ (0x80 ∷ (replicate k 0 ++ z))) k (c.to_be_bytes-bits.ensures ∙ number-bytes (8 * self.total)) in
    c.word_bytes.ensures ∙ ap (word_bytes big_endian 32) (c.after_blocks.ensures ∙ ap (after_blocks compressed self.words) (c.padded-end.ensures ∙ zeros))
