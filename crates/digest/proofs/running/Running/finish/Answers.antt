use Rattle.std.proofs.Common.{ap, ◌∙◌}
use Rattle.digest.specs.Sha256.{sha256}
use Rattle.digest.specs.Message.{hashed_by}
use Rattle.digest.proofs.Laws.Running.AcceptedCalls.{finished_by, finishing-by}
use Rattle.digest.proofs.running.Running.finish.Goals as goal

pub returns : goal.returns
returns c = ap (finished_by c.args.self) (c.from.ensures ∙ ap (hashed_by sha256) c.digest.ensures) ∙ finishing-by sha256 c.args.self
