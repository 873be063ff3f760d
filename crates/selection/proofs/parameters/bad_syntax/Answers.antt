use Rattle.std.proofs.Common.{rules}
use Rattle.selection.specs.Selection.{bad_transfer_syntax}
use Rattle.selection.proofs.parameters.bad_syntax.Goals as goal

pub returns-in_default : goal.returns-in_default
unfolding bad_transfer_syntax
returns-in_default c = search rules

pub returns-then-same : goal.returns-then-same
unfolding bad_transfer_syntax
returns-then-same c = search rules

pub returns-else-same : goal.returns-else-same
unfolding bad_transfer_syntax
returns-else-same c = search rules
