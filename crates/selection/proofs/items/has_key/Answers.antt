use Rattle.std.proofs.Common.{rules}
use Rattle.selection.specs.Selection.{mac_id_of}
use Rattle.selection.proofs.items.has_key.Goals as goal

pub returns-in-MacId : goal.returns-in-MacId
unfolding mac_id_of
returns-in-MacId c = search rules
