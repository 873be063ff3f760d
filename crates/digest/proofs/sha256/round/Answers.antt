use Rattle.std.proofs.Common.{ap₂, ℕ, ◌%◌, ◌+◌, ◌^◌, ◌∙◌}
use Rattle.digest.specs.Sha256.{round}
use Rattle.digest.proofs.Laws.Sha256.Rounds.{sum-5}
use Rattle.digest.proofs.sha256.round.Goals as goal

pub returns : goal.returns
unfolding round
returns c =
    let args = c.args in
    let v = args.v in
    let t₁ = sum-5 v.h _ _ args.k args.w
    ∙ ap₂ (λ (s x : ℕ). (v.h + s + x + args.k + args.w) % 2 ^ 32) c.big_sigma1-s1.ensures c.ch-choice.ensures in
    let t₂ = ap₂ (λ (s x : ℕ). (s + x) % 2 ^ 32) c.big_sigma0-s0.ensures c.maj-majority.ensures in
    λ i. record { a = (t₁ i + t₂ i) % 2 ^ 32; b = v.a; c = v.b; d = v.c; e = (v.d + t₁ i) % 2 ^ 32; f = v.e; g = v.f; h = v.g }
