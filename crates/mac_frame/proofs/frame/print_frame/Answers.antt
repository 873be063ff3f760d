-- `print_frame` meets its contract: what is printed fits into the array. Assumes nothing.
use Rattle.std.proofs.Common.{refl, rules}
use Rattle.mac_frame.proofs.Laws.Text.Fits.{printed-whole}
use Rattle.mac_frame.proofs.frame.print_frame.Goals as goal

pub returns : goal.returns
returns c = printed-whole _ _ _ (search rules) refl c.print_into.ensures
