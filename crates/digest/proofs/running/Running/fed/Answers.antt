use Rattle.std.proofs.Common.{List, ap, arith, refl, rules, ℕ, ◌-◌, ◌++◌, ◌∙◌}
use Rattle.digest.specs.Sha256.{sha256}
use Rattle.digest.specs.Running.{waiting_bytes, zero_filled}
use Rattle.digest.proofs.Laws.Running.WaitingArray.{fed-few, fed-many, rest-from}
use Rattle.digest.proofs.running.Running.fed.Goals as goal

pub returns-then-bytes-room : goal.returns-then-bytes-room
returns-then-bytes-room c =
    fed-few sha256 c.args.self.now c.args.bytes.now (search rules) _ (omega arith) c.filled.ensures

pub returns : goal.returns
returns c =
    let self = c.args.self.now in
    let after = c.split_at.result.1.now in
    let full = c.filled-2.ensures ∙ ap (λ (x : List ℕ). zero_filled (waiting_bytes self ++ x)) c.split_at.ensures.front in
    fed-many sha256 self c.args.bytes.now (search rules) (64 - self.count) _ _ _ after _ _ _ (omega (arith, c.requires.counted)) (omega arith) refl full
    c.after_blocks-words.ensures c.split_at.ensures.back c.after_blocks.ensures (rest-from after _ c.as_chunks.ensures.back) c.filled-3.ensures refl
