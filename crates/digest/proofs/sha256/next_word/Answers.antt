use Rattle.std.proofs.Common.{ap₂, ℕ, ◌%◌, ◌+◌, ◌-◌, ◌^◌, ◌∙◌}
use Rattle.slices.specs.Lists.{at}
use Rattle.digest.specs.Sha256.{next_word}
use Rattle.digest.proofs.Laws.Sha256.Rounds.{sum-4}
use Rattle.digest.proofs.sha256.next_word.Goals as goal

pub returns : goal.returns
unfolding next_word
returns c =
    let w = c.args.w.now in
    let t = c.args.t in
    sum-4 _ _ _ _
    ∙ ap₂ (λ (s₁ s₀ : ℕ). (s₁ + at w (t - 7) + s₀ + at w (t - 16)) % 2 ^ 32) c.small_sigma1-s1.ensures c.small_sigma0-s0.ensures
