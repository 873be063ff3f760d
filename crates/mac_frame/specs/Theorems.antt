-- What is true of the frame: statements that a reader of the definitions would ask for, all in the record Theorems,
-- proved in proofs/Theorems.antt.
-- Assumes nothing.
use Rattle.std.specs.Prelude.{ℕ, ◌+◌, ◌≤◌, ◌≡◌, List, ◌∷◌, ◌++◌, Some, length}
use Rattle.std.proofs.Math.Option as Opt
use Rattle.mac.specs.ListMode.{Call}
use Rattle.mac_frame.specs.Frame.{input_limit, output_room, big32, frame_of, frame_call}

-- RULES, 11.1: "a frame of at most 65,536 bytes: the byte 1 for the version; a length in bytes, itself four bytes with the high byte first,
-- and a list of that length; a length likewise, and a data set of that length; and no byte more"
pub record Framed (s list set : List ℕ) : Type 0 where
  pub n : List ℕ
  pub m : List ℕ
  pub four : (length n ≡ 4) × (length m ≡ 4)
  pub lengths : (big32 n 0 ≡ length list) × (big32 m 0 ≡ length set)
  pub is : s ≡ 1 ∷ (n ++ (list ++ (m ++ set)))
  pub small : length s ≤ input_limit

-- 11.2: "Its call is one of list mode; the output room is 65,536 bytes."
abbrev pub call_of : (list set : List ℕ) → Call
call_of list set = record { list = list; set = set; room = output_room; expected = Opt.none }

-- such an input is a good frame, and list mode is run with this list and this data set
pub record ReadBack (s list set : List ℕ) : Type 0 where
  pub good : frame_of s ≡ Some (5 + length list)
  pub call : frame_call s (5 + length list) ≡ call_of list set

abbrev pub FramesRead : Type 0
FramesRead = (s list set : List ℕ) → Framed s list set → ReadBack s list set

-- and nothing else is a good frame
abbrev pub OnlyFrames : Type 0
OnlyFrames = (s : List ℕ) (end : ℕ) → frame_of s ≡ Some end → Framed s (frame_call s end).list (frame_call s end).set

-- all of them
pub record Theorems : Type 0 where
  pub frames-read : FramesRead
  pub only-frames : OnlyFrames
