use Rattle.std.proofs.Common.{rules}
use Rattle.mac_frame.proofs.Laws.Text.TextPieces.{printed-decimal}
use Rattle.mac_frame.proofs.text.Text.put_decimal.Goals as goal

pub returns : goal.returns
returns c = search (printed-decimal, rules)
