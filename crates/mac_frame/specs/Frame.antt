-- The stream program: docs/RULES.md, 11.
-- Assumes nothing.
use Rattle.std.specs.Prelude.{ℕ, ◌+◌, ◌*◌, ◌^◌, ◌≤◌, ◌≡◌, not, List, [], ◌++◌, Option, None, Some, eqb, ltb, length, get_or, if◌then◌else◌}
use Rattle.std.proofs.Math.Option as Opt
use Rattle.std.proofs.lemmas.List.Edits.{sets}
use Rattle.answer.specs.Answer.{refused}
use Rattle.slices.specs.Lists.{between}
use Rattle.mac.specs.Result.{is_accepted}
use Rattle.mac.specs.ListMode.{Call, answer, stream, result}
use Rattle.mac_frame.specs.Text.{line, hex_lines}

-- 11.1: "Its standard input is a frame of at most 65,536 bytes"
abbrev pub input_limit : ℕ
input_limit = 65536

-- 11.2: "the output room is 65,536 bytes"
abbrev pub output_room : ℕ
output_room = 65536

-- the length at i, "itself four bytes with the high byte first" (11.1)
unfoldable pub big32 : List ℕ → (i : ℕ) → ℕ
big32 s i = get_or s i 0 * 2 ^ 24 + get_or s (i + 1) 0 * 2 ^ 16 + get_or s (i + 2) 0 * 2 ^ 8 + get_or s (i + 3) 0

-- 11.1: "the byte 1 for the version; a length in bytes, .., and a list of that length; a length likewise, and a data set of that length;
-- and no byte more": where the list ends, or None for a bad frame. (5 bytes: version and first length; 9: with the second length.)
unfoldable pub frame_of : List ℕ → Option ℕ
frame_of s =
    if ltb input_limit (length s) then None else
    if ltb (length s) 5 then None else
    if not (eqb (get_or s 0 0) 1) then None else
    if ltb (length s) (9 + big32 s 1) then None else
    if not (eqb (length s) (9 + big32 s 1 + big32 s (5 + big32 s 1))) then None else
    Some (5 + big32 s 1)

-- the call of list mode for a frame whose list ends at `end`
abbrev pub frame_call : List ℕ → (end : ℕ) → Call
frame_call s end = record { list = between s 5 end; set = between s (end + 4) (length s); room = output_room; expected = Opt.none }

-- 11.3: "It prints number, position and length ..; then, for number 0, the stream in hex"
unfoldable pub report : Call → List ℕ
report c = line (answer c) ++ (if is_accepted (result c) then hex_lines (stream c) else [])

-- 11.1: "Any other input gives 24, before every other number."
abbrev pub printed_by : Option ℕ → List ℕ → List ℕ
printed_by None s = line (refused 24 0)
printed_by (Some end) s = report (frame_call s end)

-- what the program prints for the input s
unfoldable pub printed : List ℕ → List ℕ
printed s = printed_by (frame_of s) s

-- What `print_frame` gives back, r: the number of bytes to print; and leaves in the array that it is lent for the text: these bytes, all of
-- them (docs/DECISIONS.md, L9), and what stood behind them.
pub record Printed (s text : List ℕ) (r : ℕ) (after : List ℕ) : Type 0 where
  pub size : r ≡ length (printed s)
  pub fits : r ≤ length text
  pub bytes : after ≡ sets text 0 (printed s)
