-- Operations on words of 32 bits: FIPS 180-4, 2.2.2, 3.2 and 4.1.2. A word is a number below 2 ^ 32.
-- Assumes nothing.
use Rattle.std.specs.Prelude.{ℕ, ◌-◌, ◌*◌, ◌/◌, ◌%◌, ◌^◌, bit_and, bit_or, bit_xor}

-- 2.2.2: x << n, without the bits that leave the word
abbrev pub shl : ℕ → ℕ → ℕ
shl n x = (x * 2 ^ n) % 2 ^ 32

-- 3.2: SHR^n(x) = x >> n
abbrev pub shr : ℕ → ℕ → ℕ
shr n x = x / 2 ^ n

-- 3.2: ROTR^n(x) = (x >> n) ∨ (x << 32 - n)
abbrev pub rotr : ℕ → ℕ → ℕ
rotr n x = bit_or (shr n x) (shl (32 - n) x)

-- 2.2.2: ¬x, all 32 bits of a word turned
abbrev pub complement : ℕ → ℕ
complement x = 2 ^ 32 - 1 - x

-- 4.1.2, (4.2): Ch(x, y, z)
abbrev pub ch : ℕ → ℕ → ℕ → ℕ
ch x y z = bit_xor (bit_and x y) (bit_and (complement x) z)

-- 4.1.2, (4.3): Maj(x, y, z)
abbrev pub maj : ℕ → ℕ → ℕ → ℕ
maj x y z = bit_xor (bit_xor (bit_and x y) (bit_and x z)) (bit_and y z)

-- 4.1.2, (4.4): Σ0
unfoldable pub big_sigma0 : ℕ → ℕ
big_sigma0 x = bit_xor (bit_xor (rotr 2 x) (rotr 13 x)) (rotr 22 x)

-- 4.1.2, (4.5): Σ1
unfoldable pub big_sigma1 : ℕ → ℕ
big_sigma1 x = bit_xor (bit_xor (rotr 6 x) (rotr 11 x)) (rotr 25 x)

-- 4.1.2, (4.6): σ0
unfoldable pub small_sigma0 : ℕ → ℕ
small_sigma0 x = bit_xor (bit_xor (rotr 7 x) (rotr 18 x)) (shr 3 x)

-- 4.1.2, (4.7): σ1
unfoldable pub small_sigma1 : ℕ → ℕ
small_sigma1 x = bit_xor (bit_xor (rotr 17 x) (rotr 19 x)) (shr 10 x)
