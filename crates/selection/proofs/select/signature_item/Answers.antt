use Rattle.std.proofs.Common.{rules}
use Rattle.selection.specs.Selection.{signature_item}
use Rattle.selection.proofs.select.signature_item.Goals as goal

pub returns : goal.returns
unfolding signature_item
returns c = search rules
