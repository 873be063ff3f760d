-- Feeding in parts, for any block function: the words after the blocks and the bytes left do not depend on how the message is cut.
-- Assumes nothing.
use Rattle.std.proofs.Common.{◌≡◌, ℕ, zero, suc, ◌+◌, ◌*◌, ◌/◌, ◌%◌, ◌<◌, ◌≤◌, List, [], ◌++◌, get_or, length, take, drop, sym, refl, ap, ◌∙◌, ap₂, add-zero, add-one, add-suc, arith, length-append, length-drop, drop_of_length-le, drop-drop}
use lib.Seq.{take-append-le, drop-append-le}
use Rattle.std.specs.Simd.{first_chunks}
use Rattle.digest.specs.Message.{block_of, chain, after_blocks, rest}

module _ (f : List ℕ → List ℕ → List ℕ) where
  -- n blocks depend on the first 64 * n bytes alone
  pub chain-append : (n : ℕ) (h a b : List ℕ) → 64 * n ≤ length a → chain f n h (a ++ b) ≡ chain f n h a
  unfolding chain
  chain-append zero h a b l = refl
  chain-append (suc n) h a b l =
      ap₂ f (chain-append n h a b (omega arith))
      (ap (take 64) (drop-append-le (64 * n) a b (omega arith)) ∙ take-append-le 64 (drop (64 * n) a) b (simp length-drop (omega arith)))

  -- n blocks and k more
  pub chain-add : (n k : ℕ) (h m : List ℕ) → chain f (n + k) h m ≡ chain f k (chain f n h m) (drop (64 * n) m)
  unfolding chain
  chain-add n zero h m = rw add-zero refl
  chain-add n (suc k) h m =
      let e : 64 * (n + k) ≡ 64 * n + 64 * k = omega arith in
      rw add-suc (ap₂ f (chain-add n k h m) (ap (λ (j : ℕ). take 64 (drop j m)) e ∙ ap (take 64) (sym (drop-drop (64 * k) (64 * n) m))))

-- ---- the loop over the blocks of m, the first k chunks of 64 bytes
block-at : (k : ℕ) (m : List ℕ) (i : ℕ) (d : List ℕ) → i < k → get_or (first_chunks 64 k m) i d ≡ block_of m i
block-at zero m i d h = absurd (omega arith)
block-at (suc k) m zero d h = refl
block-at (suc k) m (suc i) d h =
    block-at k (drop 64 m) i d (omega arith) ∙ ap (take 64) (drop-drop (64 * i) 64 m) ∙ ap (λ (j : ℕ). take 64 (drop j m)) (omega arith)

-- the words after one block more, from the words g after n of them
pub chain-next : (f : List ℕ → List ℕ → List ℕ) (h m g g' d : List ℕ) (bs : List (List ℕ)) (n : ℕ) → bs ≡ first_chunks 64 (length m / 64) m
    → length bs ≡ length m / 64 → n < length bs → g ≡ chain f n h m → g' ≡ f g (get_or bs n d) → g' ≡ chain f (n + 1) h m
unfolding chain
chain-next f h m g g' d bs n b l i e q =
    rw add-one (q ∙ ap₂ f e (ap (λ (x : List (List ℕ)). get_or x n d) b ∙ block-at (length m / 64) m n d (omega arith)))

-- the blocks of a ++ b are those of a, and those of what a left with b behind it
blocks_more : (a b : List ℕ) → length (a ++ b) / 64 ≡ length a / 64 + length (rest a ++ b) / 64
unfolding rest
blocks_more a b = simp (length-append, length-drop) (omega arith)

rest-append : (a b : List ℕ) → drop (64 * (length a / 64)) (a ++ b) ≡ rest a ++ b
unfolding rest
rest-append a b = drop-append-le (64 * (length a / 64)) a b (omega arith)

pub after_blocks-more : (f : List ℕ → List ℕ → List ℕ) (h a b : List ℕ)
    → after_blocks f (after_blocks f h a) (rest a ++ b) ≡ after_blocks f h (a ++ b)
unfolding after_blocks
after_blocks-more f h a b =
    let n = length a / 64 in
    let k = length (rest a ++ b) / 64 in
    sym (ap (λ (j : ℕ). chain f j h (a ++ b)) (blocks_more a b) ∙ chain-add f n k h (a ++ b)
    ∙ ap₂ (chain f k) (chain-append f n h a b (omega arith)) (rest-append a b))

pub rest_more : (a b : List ℕ) → rest (rest a ++ b) ≡ rest (a ++ b)
unfolding rest
rest_more a b =
    let n = length a / 64 in
    let k = length (rest a ++ b) / 64 in
    let e : 64 * (length (a ++ b) / 64) ≡ 64 * n + 64 * k = omega (arith, blocks_more a b) in
    ap (drop (64 * k)) (sym (rest-append a b)) ∙ drop-drop (64 * k) (64 * n) (a ++ b) ∙ ap (λ (j : ℕ). drop j (a ++ b)) (sym e)

pub length_rest : (m : List ℕ) → length (rest m) ≡ length m % 64
unfolding rest
length_rest m = simp length-drop (omega arith)

-- fewer than 64 bytes: no block, and all is left
pub after_blocks-few : (f : List ℕ → List ℕ → List ℕ) (h m : List ℕ) → length m < 64 → after_blocks f h m ≡ h
unfolding after_blocks chain
after_blocks-few f h m l =
    let e : length m / 64 ≡ 0 = omega arith in
    rw e refl

pub rest-few : (m : List ℕ) → length m < 64 → rest m ≡ m
unfolding rest
rest-few m l =
    let e : 64 * (length m / 64) ≡ 0 = omega arith in
    rw e refl

pub rest-one : (b : List ℕ) → length b ≡ 64 → rest b ≡ []
unfolding rest
rest-one b e = rw e (drop_of_length-le b {i = 64} (omega arith))
