-- What list mode and signature mode share: the end of the order, "then 9, 16" (RULES, 9.4, 9.5). Up to there neither the output room nor the
-- expected digest counts.
-- Assumes nothing.
use Rattle.std.specs.Prelude.{ℕ, Bool, false, not, List, eqb, length, if◌then◌else◌}
use Rattle.std.proofs.Math.Option.{Option, some}
use Rattle.std.proofs.Math.Option as Opt
use Rattle.answer.specs.declared.Answer.{Answer}
use Rattle.answer.specs.Answer.{accepted, refused, ◌or_else◌}
use Rattle.stream.specs.Walk.{answer_from16}

-- 9: "in a check only: the expected digest is not 32 bytes long" (9.3); a call for the stream has none
abbrev pub bad_digest_length : Option (List ℕ) → Bool
bad_digest_length Opt.none = false
bad_digest_length (some e) = not (eqb (length e) 32)

-- "then 9, 16", alike in both modes (9.4, 9.5): by the stream, the output room and the expected digest
unfoldable pub answer_from9 : (stream : List ℕ) (room : ℕ) (expected : Option (List ℕ)) → Answer
answer_from9 stream room expected = (if bad_digest_length expected then refused 9 0 else accepted 0) or_else answer_from16 stream room
