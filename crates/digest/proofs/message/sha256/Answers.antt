use Rattle.std.proofs.Common.{ap, ◌∙◌}
use Rattle.digest.specs.Sha256.{sha256}
use Rattle.digest.specs.Message.{hashed_by}
use Rattle.digest.proofs.Laws.Running.AcceptedCalls.{hashing-by}
use Rattle.digest.proofs.message.sha256.Goals as goal

pub returns : goal.returns
returns c = c.from.ensures ∙ ap (hashed_by sha256) c.digest_of.ensures ∙ hashing-by sha256 c.args.message.now
