-- Numbers, tags and VRs as a data set codes them: RULES, 2.4 and 2.5 (PS3.5, 7.1 and 7.3). Assumes nothing.
use Rattle.std.specs.Prelude.{ℕ, ◌+◌, ◌*◌, List, Option, Some, None, length, get_or, leb, if◌then◌else◌}

-- the two-byte number at i, of group and element numbers, and lengths: "In group, element number and length the low byte comes first." (2.4)
unfoldable pub num16 : List ℕ → ℕ → ℕ
num16 d i = get_or d i 0 + 256 * get_or d (i + 1) 0

-- the four-byte number at i, likewise
unfoldable pub num32 : List ℕ → ℕ → ℕ
num32 d i = num16 d i + 65536 * num16 d (i + 2)

-- the tag at i: "Tags are compared as the number group times 65,536 plus element." (2.5)
unfoldable pub tag_at : List ℕ → ℕ → ℕ
tag_at d i = num16 d i * 65536 + num16 d (i + 2)

-- the tag at i, or none where four bytes do not stand there
unfoldable pub tag_in : List ℕ → ℕ → Option ℕ
tag_in s i = if leb (i + 4) (length s) then Some (tag_at s i) else None

-- a VR by the codes of its two letters, as one number
abbrev pub vr : (first second : ℕ) → ℕ
vr first second = first * 256 + second

-- the VR of the element at i: "two letters for its VR" (2.4)
unfoldable pub vr_at : List ℕ → ℕ → ℕ
vr_at d i = vr (get_or d (i + 4) 0) (get_or d (i + 5) 0)
