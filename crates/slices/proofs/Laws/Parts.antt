-- Parts of a list: their lengths, and one element more. Assumes nothing.
use Prim.Native.Nat.{ℕ, ◌+◌, ◌-◌, ◌≤◌, ◌<◌}
use mathlib.Core.Path.{◌≡◌}
use mathlib.Core.List.{List, ◌∷◌}
use native.Mathlib.Numerals.{add-one}
use native.Mathlib.Omega.{arith}
use lib.ListN.{length, drop, get_or, length-drop}
use lib.Seq.{drop-cons, length-take-le}
use Rattle.slices.specs.Lists.{between}

pub length-between : (d : List ℕ) (a e : ℕ) → a ≤ e → e ≤ length d → length (between d a e) ≡ e - a
unfolding between
length-between d a e h k = length-take-le (e - a) (drop a d) (simp length-drop (omega arith))

pub drop-one : (l : List ℕ) (i : ℕ) → i < length l → drop i l ≡ get_or l i 0 ∷ drop (i + 1) l
drop-one l i h = rw (add-one, drop-cons l i 0)
