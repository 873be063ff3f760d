-- SHA-256: FIPS 180-4, 4.2.2, 5.3.3 and 6.2. A block is 64 bytes, a hash value eight words. "Additions are modulo 2^32." (docs/RULES.md,
-- 10.1; FIPS 180-4, 2.2.2) Each sum here is one of numbers, and then its remainder.
-- `Working` is the struct of src/sha256.rt: the working variables a to h.
-- Assumes nothing.
use Rattle.std.specs.Prelude.{ℕ, zero, suc, ◌+◌, ◌-◌, ◌*◌, ◌%◌, ◌^◌, List, [], ◌∷◌, ◌++◌, length}
use Rattle.slices.specs.Lists.{at, tabulate}
use Rattle.digest.specs.Words.{ch, maj, big_sigma0, big_sigma1, small_sigma0, small_sigma1}
use Rattle.digest.specs.Padding.{big_endian}
use Rattle.digest.specs.Message.{Algorithm}
use Rattle.digest.specs.declared.sha256.Working.{Working}

-- 4.2.2: the 64 constants K (their rule: specs/Constants)
unfoldable pub constants : List ℕ
constants =
    0x428a2f98 ∷ 0x71374491 ∷ 0xb5c0fbcf ∷ 0xe9b5dba5 ∷ 0x3956c25b ∷ 0x59f111f1 ∷ 0x923f82a4 ∷ 0xab1c5ed5 ∷
    0xd807aa98 ∷ 0x12835b01 ∷ 0x243185be ∷ 0x550c7dc3 ∷ 0x72be5d74 ∷ 0x80deb1fe ∷ 0x9bdc06a7 ∷ 0xc19bf174 ∷
    0xe49b69c1 ∷ 0xefbe4786 ∷ 0x0fc19dc6 ∷ 0x240ca1cc ∷ 0x2de92c6f ∷ 0x4a7484aa ∷ 0x5cb0a9dc ∷ 0x76f988da ∷
    0x983e5152 ∷ 0xa831c66d ∷ 0xb00327c8 ∷ 0xbf597fc7 ∷ 0xc6e00bf3 ∷ 0xd5a79147 ∷ 0x06ca6351 ∷ 0x14292967 ∷
    0x27b70a85 ∷ 0x2e1b2138 ∷ 0x4d2c6dfc ∷ 0x53380d13 ∷ 0x650a7354 ∷ 0x766a0abb ∷ 0x81c2c92e ∷ 0x92722c85 ∷
    0xa2bfe8a1 ∷ 0xa81a664b ∷ 0xc24b8b70 ∷ 0xc76c51a3 ∷ 0xd192e819 ∷ 0xd6990624 ∷ 0xf40e3585 ∷ 0x106aa070 ∷
    0x19a4c116 ∷ 0x1e376c08 ∷ 0x2748774c ∷ 0x34b0bcb5 ∷ 0x391c0cb3 ∷ 0x4ed8aa4a ∷ 0x5b9cca4f ∷ 0x682e6ff3 ∷
    0x748f82ee ∷ 0x78a5636f ∷ 0x84c87814 ∷ 0x8cc70208 ∷ 0x90befffa ∷ 0xa4506ceb ∷ 0xbef9a3f7 ∷ 0xc67178f2 ∷ []

-- 5.3.3: the initial hash value, eight words (their rule: specs/Constants)
unfoldable pub start_words : List ℕ
start_words =
    0x6a09e667 ∷ 0xbb67ae85 ∷ 0x3c6ef372 ∷ 0xa54ff53a ∷ 0x510e527f ∷ 0x9b05688c ∷ 0x1f83d9ab ∷ 0x5be0cd19 ∷ []

-- 3.1 and 5.2.1: word i of a block, its first byte the highest
unfoldable pub word_of : List ℕ → ℕ → ℕ
word_of block i = at block (4 * i) * 2 ^ 24 + at block (4 * i + 1) * 2 ^ 16 + at block (4 * i + 2) * 2 ^ 8 + at block (4 * i + 3)

-- 6.2.2, step 1: word t of the message schedule, 16 ≤ t, from the words before it
unfoldable pub next_word : List ℕ → ℕ → ℕ
next_word w t = (small_sigma1 (at w (t - 2)) + at w (t - 7) + small_sigma0 (at w (t - 15)) + at w (t - 16)) % 2 ^ 32

-- the words w and n more of the schedule
unfoldable pub extended : ℕ → List ℕ → List ℕ
extended zero w = w
extended (suc n) w = let v = extended n w in v ++ (next_word v (length v) ∷ [])

-- 6.2.2, step 1: the message schedule, the sixteen words of the block and 48 more
unfoldable pub schedule : List ℕ → List ℕ
schedule block = extended 48 (tabulate (word_of block) 16)

-- 6.2.2, step 2: the working variables a to h from the hash value
unfoldable pub initialized : List ℕ → Working
initialized h = record { a = at h 0; b = at h 1; c = at h 2; d = at h 3; e = at h 4; f = at h 5; g = at h 6; h = at h 7 }

-- 6.2.2, step 3: one round, with its constant k and its word w
unfoldable pub round : (k w : ℕ) → Working → Working
round k w v =
    let t₁ = (v.h + big_sigma1 v.e + ch v.e v.f v.g + k + w) % 2 ^ 32 in
    let t₂ = (big_sigma0 v.a + maj v.a v.b v.c) % 2 ^ 32 in
    record { a = (t₁ + t₂) % 2 ^ 32; b = v.a; c = v.b; d = v.c; e = (v.d + t₁) % 2 ^ 32; f = v.e; g = v.f; h = v.g }

-- 6.2.2, step 3: the rounds 0 to n - 1
unfoldable pub rounds : ℕ → List ℕ → Working → Working
rounds zero w v = v
rounds (suc n) w v = round (at constants n) (at w n) (rounds n w v)

-- 6.2.2, step 4: the working variables added to the hash value
unfoldable pub added : Working → List ℕ → List ℕ
added v h =
    (v.a + at h 0) % 2 ^ 32 ∷ (v.b + at h 1) % 2 ^ 32 ∷ (v.c + at h 2) % 2 ^ 32 ∷ (v.d + at h 3) % 2 ^ 32
    ∷ (v.e + at h 4) % 2 ^ 32 ∷ (v.f + at h 5) % 2 ^ 32 ∷ (v.g + at h 6) % 2 ^ 32 ∷ (v.h + at h 7) % 2 ^ 32 ∷ []

-- 6.2.2: the hash value after a block
unfoldable pub compressed : List ℕ → List ℕ → List ℕ
compressed h block = added (rounds 64 (schedule block) (initialized h)) h

-- 6.2: SHA-256
abbrev pub sha256 : Algorithm
sha256 = record { start = start_words; block = compressed; order = big_endian; size = 32 }
