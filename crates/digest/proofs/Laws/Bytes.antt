-- The bytes of a number and of a row of words, as the library gives them.
-- Assumes nothing.
use Rattle.std.proofs.Common.{◌≡◌, ℕ, zero, suc, ◌+◌, ◌-◌, ◌/◌, ◌%◌, ◌<◌, ◌≤◌, List, [], ◌∷◌, ◌++◌, length, get_or, sym, refl, ap, ◌∙◌, add-one, arith, map, subst}
use Rattle.std.specs.Int.{w32, w64, to_be_bytes}
use Rattle.std.specs.List.{range_with_len}
use Rattle.std.specs.Fn.{Called}
use Rattle.std.specs.Array.{IsFromFnResultFrom, IsFromFnResult}
use denote.Param.Members.{Mut}
use Rattle.std.proofs.lemmas.List.FromFn.{fill_by_all, map-range_with_len_more}
use Rattle.slices.specs.Lists.{at, tabulate}
use Rattle.digest.specs.Padding.{big_endian, byte_of, bytes_of}

number-last : (n : ℕ) → n % 256 ≡ n / 1 % 256
number-last n = omega arith

pub number-bytes : (n : ℕ) → to_be_bytes w64 n ≡ bytes_of big_endian 8 n
unfolding bytes_of byte_of tabulate
number-bytes n = let e : n / 1 ≡ n = omega arith in rw e refl

-- byte i of a row of words
word-byte : (n i : ℕ) → i < 4 → get_or (to_be_bytes w32 n) i 0 ≡ byte_of big_endian 4 n i
unfolding byte_of
word-byte n zero h = refl
word-byte n (suc zero) h = refl
word-byte n (suc (suc zero)) h = refl
word-byte n (suc (suc (suc zero))) h = number-last n
word-byte n (suc (suc (suc (suc i)))) h = absurd (omega arith)

-- a list given element by element
tabulate-map : (f : ℕ → ℕ) (n : ℕ) → tabulate f n ≡ map f (range_with_len 0 n)
unfolding tabulate
tabulate-map f zero = refl
tabulate-map f (suc n) =
    ap (λ (l : List ℕ). l ++ f n ∷ []) (tabulate-map f n) ∙ sym (map-range_with_len_more f 0 n n (omega arith)) ∙ ap (λ (k : ℕ). map f (range_with_len 0 k)) (add-one n)

filled-by : (f : ℕ → ℕ) (xs : List ℕ) (n : ℕ) → length xs ≡ n → ((k : ℕ) → k < n → get_or xs k 0 ≡ f k) → xs ≡ tabulate f n
filled-by f xs n l h = fill_by_all f xs n 0 l h ∙ sym (tabulate-map f n)

-- ---- an array by `from_fn`, whose closure h computes
module _ {F : Type 0} (g : Mut F (ℕ × Unit {0}) ℕ) (f : F) (h : ℕ → ℕ) (calls : (x y : ℕ) (q : F) → Called g f (x, tt) y q → (q ≡ f) × (y ≡ h x)) where
  made-at : (ys : List ℕ) (i n : ℕ) → IsFromFnResultFrom g f ys i n → (d k : ℕ) → d ≡ k - i → i ≤ k → k < i + n → get_or ys k 0 ≡ h k
  made-at ys i zero m d k e a b = absurd (omega arith)
  made-at ys i (suc n) m zero k e a b =
      let q : i ≡ k = omega arith in
      rw (← q) (m.2.1 0 ∙ (calls i m.1 m.0 m.3).1)
  made-at ys i (suc n) m (suc d) k e a b =
      let rest = subst (λ (p : F). IsFromFnResultFrom g p ys (i + 1) n) (calls i m.1 m.0 m.3).0 m.4 in
      made-at ys (i + 1) n rest d k (omega arith) (omega arith) (omega arith)

  pub made-by : (ys : List ℕ) (n : ℕ) → IsFromFnResult g f ys n → ys ≡ tabulate h n
  made-by ys n m = filled-by h ys n m.long λ k l. made-at ys 0 n m.each k k (omega arith) (omega arith) (omega arith)

pub words-byte : (words : List ℕ) (i y : ℕ) → y ≡ get_or (to_be_bytes w32 (at words (i / 4))) (i % 4) 0 → y ≡ byte_of big_endian 4 (at words (i / 4)) (i % 4)
words-byte words i y e = e ∙ word-byte (at words (i / 4)) (i % 4) (omega arith)
