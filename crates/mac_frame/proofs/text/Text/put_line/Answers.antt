use native.Mathlib.Omega.{arith}
use Rattle.mac_frame.specs.Text.{space}
use Rattle.mac_frame.proofs.Laws.Text.TextPieces.{length-decimal-then, line-puts}
use Rattle.mac_frame.proofs.text.Text.put_line.Goals as goal

pub put_decimal_then-requires-2 : goal.put_decimal_then-requires-2
put_decimal_then-requires-2 c =
    let p = c.put_decimal_then.ensures.size in
    omega (arith, length-decimal-then c.args.answer.number space (omega arith))

pub put_decimal_then-requires-3 : goal.put_decimal_then-requires-3
put_decimal_then-requires-3 c =
    let a = c.args.answer in
    let p = c.put_decimal_then.ensures.size in
    let q = c.put_decimal_then-2.ensures.size in
    omega (arith, length-decimal-then a.number space (omega arith), length-decimal-then a.position space (omega arith))

pub returns : goal.returns
returns c =
    line-puts _ _ _ _ _ c.put_decimal_then.ensures c.put_decimal_then-2.ensures c.put_decimal_then-3.ensures
