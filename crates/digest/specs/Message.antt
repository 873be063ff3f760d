-- The digest of a whole message, over any algorithm that takes a padded message block by block: FIPS 180-4, 5.2.1, 5.3 and 6.2;
-- RFC 1321, 3.
-- `Hashed` is the struct of src/message.rt. An array of the code is the list of its numbers.
-- Assumes nothing.
use Rattle.std.specs.Prelude.{ℕ, zero, suc, ◌-◌, ◌*◌, ◌/◌, ◌^◌, List, ◌++◌, Result, Ok, Err, length, take, drop, replicate, nat_le, if◌then◌else◌}
use Rattle.answer.specs.declared.Answer.{Answer}
use Rattle.answer.specs.Answer.{accepted, refused}
use Rattle.digest.specs.Padding.{ByteOrder, word_bytes, padding}
use Rattle.digest.specs.declared.message.Hashed.{Hashed}

-- what sets one digest apart from another
pub record Algorithm : Type 0 where
  pub start : List ℕ  -- the words before the first block, as many as the algorithm has
  pub block : List ℕ → List ℕ → List ℕ  -- from the words before a block and its 64 bytes, the words after it
  pub order : ByteOrder  -- of the words in the digest and of the length in the padding
  pub size : ℕ  -- the digest's length in bytes

-- 5.2.1: block i of a message, counted from 0
abbrev pub block_of : List ℕ → ℕ → List ℕ
block_of m i = take 64 (drop (64 * i) m)

-- from the words h, the words after the blocks 0 to n - 1 of m
unfoldable pub chain : (block : List ℕ → List ℕ → List ℕ) → ℕ → List ℕ → List ℕ → List ℕ
chain block zero h m = h
chain block (suc n) h m = block (chain block n h m) (block_of m n)

-- from the words h, the words after all whole blocks of m
unfoldable pub after_blocks : (block : List ℕ → List ℕ → List ℕ) → List ℕ → List ℕ → List ℕ
after_blocks block h m = chain block (length m / 64) h m

-- the bytes of m past its whole blocks
unfoldable pub rest : List ℕ → List ℕ
rest m = drop (64 * (length m / 64)) m

-- 6.2.2, last paragraph: the digest of a message of bytes is the words after its last block, in a row. FIPS 180-4 defines it for messages
-- below 2 ^ 64 bits; no call gives it for longer ones (`hashing`). The padded message fills whole blocks (the theorem FewestZeros).
unfoldable pub digest_of : Algorithm → List ℕ → List ℕ
digest_of a m = word_bytes a.order a.size (after_blocks a.block a.start (m ++ padding a.order (length m)))

-- 25: "its total is past 2^61 - 1 bytes" (RULES, 9.3)
abbrev pub limit : ℕ
limit = 2 ^ 61 - 1

-- the digest of a whole message, or 25 where it is longer than the limit (docs/DECISIONS.md, D5). The answer's length is 0 (A3).
unfoldable pub hashing : Algorithm → List ℕ → Hashed
hashing a m =
    if nat_le (length m) limit then record { answer = accepted 0; digest = digest_of a m } else
    record { answer = refused 25 0; digest = replicate a.size 0 }

-- what is given back, by a step that has a digest or a refusal: the answer, and a digest of zeros where it is refused
abbrev pub hashed_by : Algorithm → Result (List ℕ) Answer → Hashed
hashed_by a (Ok digest) = record { answer = accepted 0; digest = digest }
hashed_by a (Err refusal) = record { answer = refusal; digest = replicate a.size 0 }
