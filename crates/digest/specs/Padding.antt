-- The bytes of numbers and words, and the padding of a message to whole blocks of 64 bytes: FIPS 180-4, 3.1 and 5.1.1;
-- RFC 1321, 2, 3.1, 3.2 and 3.5.
-- Assumes nothing.
use Rattle.std.specs.Prelude.{ℕ, ◌-◌, ◌*◌, ◌/◌, ◌%◌, ◌^◌, List, ◌∷◌, ◌++◌, replicate}
use Rattle.slices.specs.Lists.{at, tabulate}

-- which byte of a number comes first: the highest in FIPS 180-4, the lowest in RFC 1321, which no digest here uses
-- (docs/DECISIONS.md, D7)
pub data ByteOrder : Type 0 where
  big_endian : ByteOrder
  little_endian : ByteOrder

-- byte i of a number that is `width` bytes wide
unfoldable pub byte_of : ByteOrder → (width n i : ℕ) → ℕ
byte_of big_endian width n i = (n / 2 ^ (8 * (width - 1 - i))) % 256
byte_of little_endian width n i = (n / 2 ^ (8 * i)) % 256

-- a number's `width` bytes
unfoldable pub bytes_of : ByteOrder → (width n : ℕ) → List ℕ
bytes_of order width n = tabulate (byte_of order width n) width

-- the first `size` bytes of a row of words, each word four bytes wide
unfoldable pub word_bytes : ByteOrder → (size : ℕ) → List ℕ → List ℕ
word_bytes order size words = tabulate (λ i. byte_of order 4 (at words (i / 4)) (i % 4)) size

-- 5.1.1: how many zero bytes follow the byte 0x80 after n bytes: the fewest after which 8 bytes fill the block (the theorem FewestZeros).
-- 119 is 64 + 64 - 9: the byte 0x80 and the length take 9 bytes of a block; with one block more the difference is never below 0.
abbrev pub zeros_after : ℕ → ℕ
zeros_after n = (119 - n % 64) % 64

-- 5.1.1: what is put after a message of n bytes: the bit 1 and seven bits 0, zero bytes, and the message's length in bits in 64 bits
unfoldable pub padding : ByteOrder → ℕ → List ℕ
padding order n = 0x80 ∷ (replicate (zeros_after n) 0 ++ bytes_of order 8 (8 * n))
