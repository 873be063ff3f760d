use Rattle.std.proofs.Common.{rules}
use Rattle.selection.specs.Selection.{algorithm_of}
use Rattle.selection.proofs.parameters.algorithm_of.Goals as goal

pub returns-in_err-term : goal.returns-in_err-term
unfolding algorithm_of
returns-in_err-term c = search rules

pub returns : goal.returns
unfolding algorithm_of
returns c = search rules
