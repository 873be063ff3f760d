-- For inner contracts; no part of what a reader has to believe: text put behind the text that there is, and what a good frame holds.
-- Assumes nothing.
use Rattle.std.specs.Prelude.{ℕ, ◌+◌, ◌≤◌, ◌≡◌, List, length}
use Rattle.std.proofs.lemmas.List.Edits.{sets}
use Rattle.mac_frame.specs.Frame.{input_limit}
use Rattle.mac_frame.specs.declared.text.Text.{Text}

-- the bytes are written into the same room behind the text that there is, as far as they fit, and counted
pub record Puts (before : Text) (bytes : List ℕ) (after : Text) : Type 0 where
  pub same_room : after.room.ghost_name ≡ before.room.ghost_name
  pub size : after.size ≡ before.size + length bytes
  pub wrote : after.room.now ≡ sets before.room.now before.size bytes

-- what a good frame holds whose list ends at `end`
pub record Holds (s : List ℕ) (end : ℕ) : Type 0 where
  pub least : 5 ≤ end
  pub inside : end + 4 ≤ length s
  pub small : length s ≤ input_limit
