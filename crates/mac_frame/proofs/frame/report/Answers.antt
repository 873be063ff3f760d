-- `report` meets its contract: what list mode gives for the frame is what is put, and it fits. Assumes nothing.
use Rattle.std.proofs.Common.{length, length-take, rules, sym, take, ◌≡◌, ◌≤◌}
use native.Mathlib.Omega.{arith}
use lib.Seq.{length-take-le}
use Rattle.slices.specs.Lists.{between}
use Rattle.mac.specs.ListMode.{answer}
use Rattle.mac_frame.specs.Frame.{frame_call}
use Rattle.mac_frame.proofs.Laws.Text.TextPieces.{length-line}
use Rattle.mac_frame.proofs.Laws.Frame.FrameTests.{report-refused, report-accepted, within-room, answer-framed, output-framed}
use Rattle.mac_frame.proofs.frame.report.Goals.{After-list_stream-answer}
use Rattle.mac_frame.proofs.frame.report.Goals as goal

-- what list mode answers is what it answers to the frame's call
answered : (c : After-list_stream-answer) → c.list_stream-answer.result ≡ answer (frame_call c.args.input.now c.args.end)
unfolding between
answered c = answer-framed c.args.input.now c.output-out.result _ c.args.end _ (search rules) c.list_stream-answer.ensures

-- where it is accepted, its stream fits into the room
inside : (c : After-list_stream-answer) → c.list_stream-answer.result.number ≡ 0
    → c.list_stream-answer.result.length ≤ length c.list_stream-answer.new.out
inside c z =
    let n : length c.list_stream-answer.new.out ≡ length c.output-out.result = c.list_stream-answer.auto.out in
    let m : length c.output-out.result ≡ 65536 = search rules in
    omega (arith, within-room _ _ (answered c) z)

pub slice_bounds-out-end : goal.slice_bounds-out-end
slice_bounds-out-end c = inside (goal.at.slice_bounds-out-end c).After-list_stream-answer c.if-answer-eq0.true

pub slice_bounds-put_lines-end : goal.slice_bounds-put_lines-end
slice_bounds-put_lines-end c =
    sym (length-take-le _ _ (inside (goal.at.slice_bounds-put_lines-end c).After-list_stream-answer c.if-answer-eq0.true))

pub put_lines-requires : goal.put_lines-requires
put_lines-requires c =
    let e = answered (goal.at.put_lines-requires c).After-list_stream-answer in
    let a = c.list_stream-answer.result in
    let p = c.put_line.ensures.size in
    let n : length (take a.length c.list_stream-answer.new.out) ≤ a.length = simp length-take (omega arith) in
    let l = length-line a (search rules) (search rules) (search rules) in
    let w = within-room _ _ e c.if-answer-eq0.true in
    (omega arith, omega arith)

pub returns-then-answer-eq0 : goal.returns-then-answer-eq0
unfolding between
returns-then-answer-eq0 c =
    let e = answered (goal.at.returns-then-answer-eq0 c).After-list_stream-answer in
    let o = output-framed c.args.input.now c.output-out.result _ c.args.end _ (search rules) c.list_stream-answer.ensures in
    report-accepted _ _ _ _ e _ c.output-out.result _ c.if-answer-eq0.true o c.put_line.ensures c.put_lines.ensures

pub returns-else-answer-eq0 : goal.returns-else-answer-eq0
returns-else-answer-eq0 c =
    report-refused _ _ _ _ (answered (goal.at.returns-else-answer-eq0 c).After-list_stream-answer) c.if-answer-eq0.false c.put_line.ensures
