use Rattle.std.proofs.Common.{ap, sym, ◌∙◌}
use Rattle.digest.specs.Sha256.{sha256}
use Rattle.digest.proofs.Laws.Running.AcceptedCalls.{fed_by, feeding-by}
use Rattle.digest.proofs.running.Running.feed.Goals as goal

pub returns-in-Ok : goal.returns-in-Ok
returns-in-Ok c =
    (λ i. record { answer = c.accepted.ensures i; running = c.in-Ok.running })
    ∙ ap (fed_by c.args.self) (sym c.in-Ok.is ∙ c.after.ensures) ∙ feeding-by sha256 c.args.self c.args.bytes.now

pub returns-in-Err : goal.returns-in-Err
returns-in-Err c = ap (fed_by c.args.self) (sym c.in-Err.is ∙ c.after.ensures) ∙ feeding-by sha256 c.args.self c.args.bytes.now
