use Rattle.std.proofs.Common.{rules, ◌∙◌}
use Rattle.digest.specs.Sha256.{sha256}
use Rattle.digest.proofs.Laws.Running.CallsInTurn.{step-refused, step-taken}
use Rattle.digest.proofs.message.digest_of.Goals as goal

pub returns-in_err-after : goal.returns-in_err-after
returns-in_err-after c = search rules ∙ step-refused sha256 c.args.message.now _ _ c.in_err-after.field-0.0 c.start.ensures c.after.ensures c.in_err-after.was

pub returns : goal.returns
returns c = step-taken sha256 c.args.message.now _ _ _ _ c.start.ensures c.after.ensures c.in_ok-after.was c.digest.ensures
