-- The tags of a list from an index on. Assumes nothing.
use Prim.Native.Nat.{ℕ, ◌+◌, ◌*◌, ◌/◌, ◌≤◌, ◌<◌}
use mathlib.Core.Path.{◌≡◌, refl}
use mathlib.Core.List.{List, [], ◌∷◌}
use native.Mathlib.Omega.{arith}
use lib.ListN.{length, drop, get_or, length-drop}
use Rattle.dataset.specs.Bytes.{num16, tag_at}
use Rattle.slices.proofs.Laws.Parts.{drop-one}
use Rattle.stream.specs.TagList.{tags_in}

drop-four : (l : List ℕ) (a : ℕ) → a + 4 ≤ length l
    → drop a l ≡ get_or l a 0 ∷ get_or l (a + 1) 0 ∷ get_or l (a + 2) 0 ∷ get_or l (a + 2 + 1) 0 ∷ drop (a + 4) l
drop-four l a h =
    let p : a + 1 + 1 ≡ a + 2 = omega arith in
    let q : a + 2 + 1 + 1 ≡ a + 4 = omega arith in
    rw (drop-one l a (omega arith), drop-one l (a + 1) (omega arith), p, drop-one l (a + 2) (omega arith), drop-one l (a + 2 + 1) (omega arith), q)

pub tags-more : (l : List ℕ) (index : ℕ) → index < length l / 4
    → tags_in (drop (4 * index) l) ≡ tag_at l (4 * index) ∷ tags_in (drop (4 * (index + 1)) l)
unfolding tags_in tag_at num16
tags-more l index h =
    let q : 4 * (index + 1) ≡ 4 * index + 4 = omega arith in
    rw (q, drop-four l (4 * index) (omega arith))

none_in : (l : List ℕ) → length l < 4 → tags_in l ≡ []
unfolding tags_in
none_in [] h = refl
none_in (a ∷ []) h = refl
none_in (a ∷ b ∷ []) h = refl
none_in (a ∷ b ∷ c ∷ []) h = refl
none_in (a ∷ b ∷ c ∷ d ∷ l) h = absurd (omega arith)

pub tags-none : (l : List ℕ) (index : ℕ) → length l / 4 ≤ index → tags_in (drop (4 * index) l) ≡ []
tags-none l index h = none_in (drop (4 * index) l) (simp length-drop (omega arith))
