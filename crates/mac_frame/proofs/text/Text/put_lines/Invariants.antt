use Rattle.std.proofs.Common.{◌≡◌}
use Rattle.std.specs.Slice.Iter.{chunks_rest, chunks_size}
use Rattle.mac_frame.proofs.Laws.Text.HexLines.{Lines}
use Rattle.mac_frame.proofs.text.Text.put_lines.Given as goal

abbrev pub invariant-loop-line : goal.invariant-loop-line
invariant-loop-line l =
    goal.iterator-loop-line.can_next l.line-iterator × goal.iterator-loop-line.is_finite l.line-iterator
    × (chunks_size l.line-iterator ≡ 32) × Lines l.bytes l.initial.self l.self (chunks_rest l.line-iterator)
