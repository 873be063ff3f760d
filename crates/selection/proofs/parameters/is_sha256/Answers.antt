use Rattle.std.proofs.Common.{rules}
use Rattle.slices.proofs.Laws.Comparing.{pointwise-same_bytes}
use Rattle.selection.specs.Selection.{is_term}
use Rattle.selection.proofs.parameters.is_sha256.Goals as goal

pub returns : goal.returns
unfolding is_term
returns c = search (rules, pointwise-same_bytes)
