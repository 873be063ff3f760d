use Rattle.std.proofs.Common.{rules, arith, ◌∙◌}
use Rattle.mac_frame.proofs.Laws.Text.HexLines.{lines-start, lines-again, lines-end}
use Rattle.mac_frame.proofs.text.Text.put_lines.Goals as goal

pub loop-line-init : goal.loop-line-init
loop-line-init c = (search rules, tt, search rules, lines-start _ _ _ (search rules))

pub put_hex_line-requires : goal.put_hex_line-requires
put_hex_line-requires c =
    let s = c.loop-line.invariant.3 in
    let steps = c.in-Some.ensures.steps in
    let p = s.puts.size in
    let size = c.loop-line.invariant.2 in
    (omega (arith, s.near, p), omega (arith, rw size at steps.1.1))

pub loop-line-preserved : goal.loop-line-preserved
loop-line-preserved c =
    let size = c.loop-line.invariant.2 in
    let steps = c.in-Some.ensures.steps in (
      search rules,
      tt,
      steps.0 ∙ size,
      lines-again _ _ _ _ _ _ _ c.loop-line.invariant.3 steps.1.0 (rw size at steps.1.1) steps.1.2 c.put_hex_line.ensures,
    )

pub returns : goal.returns
returns c = lines-end _ _ _ _ c.loop-line.invariant.3 c.in-None.ensures.steps.1.0
