-- The waiting bytes and the padding after them: the stores that make them, and the blocks that they fill.
-- Assumes nothing.
use Rattle.std.proofs.Common.{◌≡◌, ℕ, suc, ◌+◌, ◌-◌, ◌%◌, ◌<◌, ◌≤◌, Bool, true, false, ltb, List, ◌∷◌, ◌++◌, length, take, drop, set, replicate, refl, ap, ◌∙◌, append_assoc, arith, length-append, length-take-le, ltb-false, ltb-true, if◌then◌else◌}
use lib.ListN.{length-replicate}
use lib.Seq.{take-append-add, take-append_seam, set-append_seam}
use Rattle.std.proofs.lemmas.List.Edits.{sets, sets-eq}
use Rattle.digest.specs.Padding.{ByteOrder, bytes_of, zeros_after, padding}
use Rattle.digest.specs.Theorems.{FewestZeros}
use Rattle.slices.proofs.Laws.Tables.{length-tabulate}
use Rattle.digest.proofs.Laws.Running.Zeros.{drop-replicate, take-replicate}

-- w, then the byte x, then zeros, then the eight bytes of `bits`, n bytes in all: the stores that make it
pub padded-stores : (w bits u v : List ℕ) (x n : ℕ) → length bits ≡ 8 → length w + 9 ≤ n → n ≤ 128
    → u ≡ sets (replicate 128 0) 0 w → v ≡ sets (set u (length w) x) (n - 8) bits → take n v ≡ w ++ (x ∷ (replicate (n - 9 - length w) 0 ++ bits))
padded-stores w bits u v x n e h l p q =
    let c = length w in
    let R : List ℕ = replicate (127 - c) 0 in
    let m : 128 - (0 + c) ≡ suc (127 - c) = omega arith in
    let d₁ : u ≡ w ++ 0 ∷ R =
    p ∙ sets-eq w (replicate 128 0) 0 (omega arith) ∙ ap (λ (x : List ℕ). w ++ x) (drop-replicate (0 + c) 128 0 ∙ ap (λ (k : ℕ). replicate k 0) m) in
    let d₂ : set u c x ≡ w ++ x ∷ R = ap (λ (d : List ℕ). set d c x) d₁ ∙ set-append_seam w 0 R x in
    let len : length (w ++ x ∷ R) ≡ 128 = simp (length-append, length-replicate) (omega arith) in
    let t₁ : n ≡ length (take (n - 8) (w ++ x ∷ R) ++ bits) = omega (arith, length-append (take (n - 8) (w ++ x ∷ R)) bits, length-take-le (n - 8) (w ++ x ∷ R) (omega arith)) in
    let t₂ : n - 8 ≡ length w + suc (n - 9 - c) = omega arith in
    ap (take n) (q ∙ ap (λ (d : List ℕ). sets d (n - 8) bits) d₂ ∙ sets-eq bits (w ++ x ∷ R) (n - 8) (omega arith))
    ∙ ap (λ (k : ℕ). take k ((take (n - 8) (w ++ x ∷ R) ++ bits) ++ drop (n - 8 + length bits) (w ++ x ∷ R))) t₁
    ∙ take-append_seam (take (n - 8) (w ++ x ∷ R) ++ bits) (drop (n - 8 + length bits) (w ++ x ∷ R))
    ∙ ap (λ (y : List ℕ). y ++ bits) (ap (λ (k : ℕ). take k (w ++ x ∷ R)) t₂ ∙ take-append-add w (x ∷ R) (suc (n - 9 - c))
    ∙ ap (λ (l : List ℕ). w ++ x ∷ l) (take-replicate (n - 9 - c) (127 - c) 0 (omega arith)))
    ∙ append_assoc w (x ∷ replicate (n - 9 - c) 0) bits

-- the byte 0x80, the zeros and the eight bytes of the length
length-padding : (order : ByteOrder) (n : ℕ) → length (padding order n) ≡ zeros_after n + 9
unfolding padding bytes_of
length-padding order n = simp (length-append, length-replicate, length-tabulate) (omega arith)

-- FIPS 180-4, 5.1.1
pub fewest-zeros : (n : ℕ) → FewestZeros n
fewest-zeros n = record { solves = omega arith; smallest = λ k e. omega arith; whole = λ order. omega (arith, length-padding order n) }

-- ---- one block or two
-- n bytes hold the waiting bytes, the byte 0x80 and the length, and the zeros between are those of the padding
pub record Fills (count total n : ℕ) : Type 0 where
  pub least : count + 9 ≤ n
  pub most : n ≤ 128
  pub zeros : n - 9 - count ≡ zeros_after total

fills-by : (count total : ℕ) (b : Bool) → ltb count 56 ≡ b → count ≡ total % 64 → Fills count total (if b then 64 else 128)
fills-by count total true e c =
    let h : count < 56 = ltb-true count 56 e in
    record { least = omega arith; most = omega arith; zeros = omega arith }
fills-by count total false e c =
    let h : 56 ≤ count = ltb-false count 56 e in
    record { least = omega arith; most = omega arith; zeros = omega arith }

pub fills : (count total n : ℕ) → count ≡ total % 64 → n ≡ (if ltb count 56 then 64 else 128) → Fills count total n
fills count total n c e = rw e (fills-by count total (ltb count 56) refl c)
