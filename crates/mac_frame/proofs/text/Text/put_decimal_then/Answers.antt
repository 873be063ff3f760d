use native.Mathlib.Omega.{arith}
use Rattle.mac_frame.proofs.Laws.Text.TextPieces.{length-decimal, decimal-then-puts}
use Rattle.mac_frame.proofs.text.Text.put_decimal_then.Goals as goal

pub put-requires : goal.put-requires
put-requires c =
    let p = c.put_decimal.ensures.size in
    (omega (arith, length-decimal c.args.n (omega arith)), omega arith)

pub returns : goal.returns
returns c = search decimal-then-puts
