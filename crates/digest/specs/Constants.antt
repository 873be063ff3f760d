-- The rule for the constants of SHA-256: FIPS 180-4, 4.2.2 and 5.3.3. The theorems ConstantsRule and StartWordsRule say that the tables
-- keep it.
-- Assumes nothing.
use Rattle.std.specs.Prelude.{ℕ, zero, suc, ◌+◌, ◌-◌, ◌*◌, ◌%◌, ◌^◌, ◌<◌, ◌≤◌, Bool, true, not, ◌&&◌, ◌||◌, List, [], ◌∷◌, ◌++◌, ◌==◌, nat_le, nat_lt, if◌then◌else◌}

-- 4.2.2, 5.3.3: x is the first 32 bits of the fractional part of the e-th root of p. With the root's whole part, whole * 2 ^ 32 + x is the
-- greatest number whose e-th power is at most p * 2 ^ (32 * e).
pub record RootBits (e p x : ℕ) : Type 0 where
  pub word : x < 2 ^ 32
  pub whole : ℕ
  pub most : (whole * 2 ^ 32 + x) ^ e ≤ p * 2 ^ (32 * e)
  pub next : p * 2 ^ (32 * e) < (whole * 2 ^ 32 + x + 1) ^ e

-- no number from 2 to d divides n
unfoldable pub undivided : (d n : ℕ) → Bool
undivided zero n = true
undivided (suc d) n = (nat_lt (suc d) 2 || not (n % suc d == 0)) && undivided d n

-- n is a prime number
abbrev pub is_prime : ℕ → Bool
is_prime n = nat_le 2 n && undivided (n - 1) n

-- the primes below n, ascending
unfoldable pub primes_below : ℕ → List ℕ
primes_below zero = []
primes_below (suc n) = primes_below n ++ (if is_prime n then n ∷ [] else [])
