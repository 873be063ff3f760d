-- Parts of a data set, byte by byte; numbers, tags and VRs as bytes. Assumes nothing.
use Prim.Native.Nat.{ℕ, suc, ◌+◌, ◌-◌, ◌*◌, ◌/◌, ◌%◌, ◌≤◌, ◌<◌}
use mathlib.Core.Path.{◌≡◌, sym, ap, ap₂, ◌∙◌}
use mathlib.Core.List.{List, [], ◌∷◌, ◌++◌}
use native.Mathlib.Omega.{arith}
use lib.ListN.{length, get_or}
use Rattle.dataset.specs.Bytes.{num16, num32, tag_at, vr_at}
use Rattle.slices.specs.Lists.{between, OfBytes}
use Rattle.slices.proofs.Laws.Parts.{drop-one}

-- the two and the four bytes of a number, low byte first
abbrev pub bytes16 : ℕ → List ℕ
bytes16 n = n % 256 ∷ n / 256 % 256 ∷ []

abbrev pub bytes32 : ℕ → List ℕ
bytes32 n = bytes16 (n % 65536) ++ bytes16 (n / 65536)

-- group and element number
abbrev pub tag_bytes : ℕ → List ℕ
tag_bytes tag = bytes16 (tag / 65536) ++ bytes16 (tag % 65536)

-- the two letters
abbrev pub vr_bytes : ℕ → List ℕ
vr_bytes vr = vr / 256 ∷ vr % 256 ∷ []

-- ---- a part's first bytes
pub between_none : (d : List ℕ) (a : ℕ) → between d a a ≡ []
unfolding between
between_none d a = let e : a - a ≡ 0 = omega arith in rw e

between_cons : (d : List ℕ) (a e : ℕ) → a < e → e ≤ length d → between d a e ≡ get_or d a 0 ∷ between d (a + 1) e
unfolding between
between_cons d a e h k =
    let n : e - a ≡ suc (e - (a + 1)) = omega arith in
    let l : a < length d = omega arith in
    rw (n, drop-one d a l)

from-same : (d : List ℕ) (a b e : ℕ) → a ≡ b → between d a e ≡ between d b e
from-same d a b e h = ap (λ (x : ℕ). between d x e) h

first_two : (d : List ℕ) (a e : ℕ) → a + 2 ≤ e → e ≤ length d → between d a e ≡ get_or d a 0 ∷ get_or d (a + 1) 0 ∷ between d (a + 2) e
first_two d a e h k =
    between_cons d a e (omega arith) k
    ∙ ap (λ (x : List ℕ). get_or d a 0 ∷ x)
    (between_cons d (a + 1) e (omega arith) k ∙ ap (λ (x : List ℕ). get_or d (a + 1) 0 ∷ x) (from-same d (a + 1 + 1) (a + 2) e (omega arith)))

first-four : (d : List ℕ) (a e : ℕ) → a + 4 ≤ e → e ≤ length d
    → between d a e ≡ get_or d a 0 ∷ get_or d (a + 1) 0 ∷ get_or d (a + 2) 0 ∷ get_or d (a + 2 + 1) 0 ∷ between d (a + 4) e
first-four d a e h k =
    first_two d a e (omega arith) k
    ∙ ap (λ (x : List ℕ). get_or d a 0 ∷ get_or d (a + 1) 0 ∷ x)
    (first_two d (a + 2) e (omega arith) k ∙ ap (λ (x : List ℕ). get_or d (a + 2) 0 ∷ get_or d (a + 2 + 1) 0 ∷ x) (from-same d (a + 2 + 2) (a + 4) e (omega arith)))

-- ---- numbers as bytes
bytes_of : (x y : ℕ) → x < 256 → y < 256 → bytes16 (x + 256 * y) ≡ x ∷ y ∷ []
bytes_of x y h k =
    let p : (x + 256 * y) % 256 ≡ x = omega arith in
    let z : (x + 256 * y) / 256 ≡ y = omega arith in
    let w : y % 256 ≡ y = omega arith in
    ap₂ (λ (a b : ℕ). a ∷ b ∷ []) p (ap (λ (n : ℕ). n % 256) z ∙ w)

module _ (d : List ℕ) (b : OfBytes d) where
  pub small16 : (i : ℕ) → num16 d i < 65536
  unfolding num16
  small16 i = omega (arith, b i, b (i + 1))

  bytes16-at : (i : ℕ) → bytes16 (num16 d i) ≡ get_or d i 0 ∷ get_or d (i + 1) 0 ∷ []
  unfolding num16
  bytes16-at i = bytes_of (get_or d i 0) (get_or d (i + 1) 0) (b i) (b (i + 1))

  -- two numbers of two bytes
  halves-at : (i x y : ℕ) → x ≡ num16 d i → y ≡ num16 d (i + 2)
      → bytes16 x ++ bytes16 y ≡ get_or d i 0 ∷ get_or d (i + 1) 0 ∷ get_or d (i + 2) 0 ∷ get_or d (i + 2 + 1) 0 ∷ []
  halves-at i x y p q = ap₂ (λ (m n : ℕ). bytes16 m ++ bytes16 n) p q ∙ ap₂ (λ (m n : List ℕ). m ++ n) (bytes16-at i) (bytes16-at (i + 2))

  tag-at : (i : ℕ) → tag_bytes (tag_at d i) ≡ get_or d i 0 ∷ get_or d (i + 1) 0 ∷ get_or d (i + 2) 0 ∷ get_or d (i + 2 + 1) 0 ∷ []
  unfolding tag_at
  tag-at i = halves-at i _ _ (omega (arith, small16 i, small16 (i + 2))) (omega (arith, small16 i, small16 (i + 2)))

  bytes32-at : (i : ℕ) → bytes32 (num32 d i) ≡ get_or d i 0 ∷ get_or d (i + 1) 0 ∷ get_or d (i + 2) 0 ∷ get_or d (i + 2 + 1) 0 ∷ []
  unfolding num32
  bytes32-at i = halves-at i _ _ (omega (arith, small16 i, small16 (i + 2))) (omega (arith, small16 i, small16 (i + 2)))

  vr-at : (i : ℕ) → vr_bytes (vr_at d i) ≡ get_or d (i + 4) 0 ∷ get_or d (i + 5) 0 ∷ []
  unfolding vr_at
  vr-at i =
      let p : (get_or d (i + 4) 0 * 256 + get_or d (i + 5) 0) / 256 ≡ get_or d (i + 4) 0 = omega (arith, b (i + 4), b (i + 5)) in
      let q : (get_or d (i + 4) 0 * 256 + get_or d (i + 5) 0) % 256 ≡ get_or d (i + 5) 0 = omega (arith, b (i + 4), b (i + 5)) in
      ap₂ (λ (x y : ℕ). x ∷ y ∷ []) p q

  -- ---- what stands at the front of a part
  pub tag-front : (a e : ℕ) → a + 4 ≤ e → e ≤ length d → between d a e ≡ tag_bytes (tag_at d a) ++ between d (a + 4) e
  tag-front a e h k = first-four d a e h k ∙ ap (λ (x : List ℕ). x ++ between d (a + 4) e) (sym (tag-at a))

  vr-front : (a e : ℕ) → a + 6 ≤ e → e ≤ length d → between d (a + 4) e ≡ vr_bytes (vr_at d a) ++ between d (a + 6) e
  vr-front a e h k =
      let p : a + 4 + 1 ≡ a + 5 = omega arith in
      first_two d (a + 4) e (omega arith) k
      ∙ ap (λ (n : ℕ). get_or d (a + 4) 0 ∷ get_or d n 0 ∷ between d (a + 4 + 2) e) p
      ∙ ap (λ (x : List ℕ). get_or d (a + 4) 0 ∷ get_or d (a + 5) 0 ∷ x) (from-same d (a + 4 + 2) (a + 6) e (omega arith))
      ∙ ap (λ (x : List ℕ). x ++ between d (a + 6) e) (sym (vr-at a))

  num16-front : (a e : ℕ) → a + 2 ≤ e → e ≤ length d → between d a e ≡ bytes16 (num16 d a) ++ between d (a + 2) e
  num16-front a e h k = first_two d a e h k ∙ ap (λ (x : List ℕ). x ++ between d (a + 2) e) (sym (bytes16-at a))

  num32-front : (a e : ℕ) → a + 4 ≤ e → e ≤ length d → between d a e ≡ bytes32 (num32 d a) ++ between d (a + 4) e
  num32-front a e h k = first-four d a e h k ∙ ap (λ (x : List ℕ). x ++ between d (a + 4) e) (sym (bytes32-at a))

  -- an element's header: tag, VR and two bytes; in the long form four more
  pub header-front : (a e : ℕ) → a + 8 ≤ e → e ≤ length d
      → between d a e ≡ tag_bytes (tag_at d a) ++ (vr_bytes (vr_at d a) ++ (bytes16 (num16 d (a + 6)) ++ between d (a + 8) e))
  header-front a e h k =
      tag-front a e (omega arith) k
      ∙ ap (λ (x : List ℕ). tag_bytes (tag_at d a) ++ x) (vr-front a e (omega arith) k
      ∙ ap (λ (x : List ℕ). vr_bytes (vr_at d a) ++ x) (num16-front (a + 6) e (omega arith) k
      ∙ ap (λ (x : List ℕ). bytes16 (num16 d (a + 6)) ++ x) (from-same d (a + 6 + 2) (a + 8) e (omega arith))))

  pub long-front : (a e : ℕ) → a + 12 ≤ e → e ≤ length d
      → between d a e ≡ tag_bytes (tag_at d a) ++ (vr_bytes (vr_at d a) ++ (bytes16 (num16 d (a + 6)) ++ (bytes32 (num32 d (a + 8)) ++ between d (a + 12) e)))
  long-front a e h k =
      header-front a e (omega arith) k
      ∙ ap (λ (x : List ℕ). tag_bytes (tag_at d a) ++ (vr_bytes (vr_at d a) ++ (bytes16 (num16 d (a + 6)) ++ x)))
      (num32-front (a + 8) e (omega arith) k ∙ ap (λ (x : List ℕ). bytes32 (num32 d (a + 8)) ++ x) (from-same d (a + 8 + 4) (a + 12) e (omega arith)))
