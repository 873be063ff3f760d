-- Wrapping sums, the message schedule and the rounds, one step at a time.
-- Assumes nothing.
use Rattle.std.proofs.Common.{◌≡◌, ℕ, zero, suc, ◌+◌, ◌-◌, ◌%◌, ◌^◌, ◌<◌, ◌≤◌, List, length, take, set, sym, refl, ap, ◌∙◌, ap₂, add-one, arith, length-append, get_or-take}
use native.Mathlib.Nat.{mod-add-mod}
use Rattle.slices.specs.Lists.{at}
use Rattle.digest.specs.Sha256.{constants, next_word, extended, round, rounds}
use Rattle.digest.specs.declared.sha256.Working.{Working}
use Rattle.slices.proofs.Laws.Tables.{stored_next}

-- a wrapping sum of a wrapping sum is one sum with one remainder
sum_more : (s c : ℕ) {x y : ℕ} → x ≡ s % 2 ^ 32 → y ≡ (x + c) % 2 ^ 32 → y ≡ (s + c) % 2 ^ 32
sum_more s c p q = q ∙ ap (λ (n : ℕ). (n + c) % 2 ^ 32) p ∙ mod-add-mod s (2 ^ 32) c

pub sum-4 : (a b c d : ℕ) → (((a + b) % 2 ^ 32 + c) % 2 ^ 32 + d) % 2 ^ 32 ≡ (a + b + c + d) % 2 ^ 32
sum-4 a b c d = sum_more (a + b + c) d (sum_more (a + b) c refl refl) refl

pub sum-5 : (a b c d e : ℕ) → ((((a + b) % 2 ^ 32 + c) % 2 ^ 32 + d) % 2 ^ 32 + e) % 2 ^ 32 ≡ (a + b + c + d + e) % 2 ^ 32
sum-5 a b c d e = sum_more (a + b + c + d) e (sum-4 a b c d) refl

pub length-extended : (n : ℕ) (ws : List ℕ) → length (extended n ws) ≡ length ws + n
unfolding extended
length-extended zero ws = omega arith
length-extended (suc n) ws = simp (length-append, length-extended n ws) (omega arith)

-- a word of the schedule depends on the words before it alone
next_word-take : (ws : List ℕ) (t : ℕ) → 16 ≤ t → next_word (take t ws) t ≡ next_word ws t
unfolding next_word
next_word-take ws t h =
    let before : (k : ℕ) → 0 < k → k ≤ t → at (take t ws) (t - k) ≡ at ws (t - k) = λ k p q. get_or-take t ws (t - k) 0 (omega arith) in
    let e₂ = before 2 (omega arith) (omega arith) in
    let e₇ = before 7 (omega arith) (omega arith) in
    let e₁₅ = before 15 (omega arith) (omega arith) in
    let e₁₆ = before 16 (omega arith) (omega arith) in
    cc

-- one more word of the schedule, stored in its place
pub extended-next : (ws w : List ℕ) (t n x : ℕ) → n ≡ t + 1 → length ws ≡ 16 → 16 ≤ t → t < length w
    → take t w ≡ extended (t - 16) ws → x ≡ next_word w t → take n (set w t x) ≡ extended (n - 16) ws
unfolding extended
extended-next ws w t n x p l h g e q =
    let k : t + 1 - 16 ≡ suc (t - 16) = omega arith in
    let m : length (extended (t - 16) ws) ≡ t = length-extended (t - 16) ws ∙ omega arith in
    let y : x ≡ next_word (extended (t - 16) ws) (length (extended (t - 16) ws)) = q ∙ sym (next_word-take w t h) ∙ ap₂ next_word e (sym m) in
    rw (p, k) (stored_next w (extended (t - 16) ws) t x _ g e y)

-- one round more, with the constant from the table k
pub rounds-next : (k w : List ℕ) (v u u' : Working) (t n : ℕ) → k ≡ constants → n ≡ t + 1 → u ≡ rounds t w v
    → u' ≡ round (at k t) (at w t) u → u' ≡ rounds n w v
unfolding rounds
rounds-next k w v u u' t n c p e q = rw (p, add-one) (q ∙ ap₂ (λ (l : List ℕ) (x : Working). round (at l t) (at w t) x) c e)
