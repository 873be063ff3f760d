use Rattle.std.proofs.Common.{ap, ap₂, ◌∙◌}
use Rattle.digest.specs.Sha256.{rounds, added, compressed}
use Rattle.digest.specs.declared.sha256.Working.{Working}
use Rattle.digest.proofs.sha256.compressed.Goals as goal

pub returns : goal.returns
unfolding compressed
returns c =
    let start = c.before in
    let v = c.rounds-v.ensures ∙ ap₂ (rounds 64) c.schedule-w.ensures c.initialized.ensures in
    c.added.ensures ∙ ap (λ (u : Working). added u start.args.h) v
