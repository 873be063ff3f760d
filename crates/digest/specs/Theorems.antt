-- What holds of the definitions, stated here and proved in proofs/Theorems. docs/RULES.md, 13.3, of a digest: "after every feeding it is
-- FIPS 180-4's of all bytes fed so far".
-- Assumes nothing.
use Rattle.std.specs.Prelude.{◌≡◌, ℕ, ◌+◌, ◌*◌, ◌%◌, ◌<◌, ◌≤◌, true, List, [], ◌∷◌, ◌++◌, length}
use mathlib.Core.List.{flatten}
use Rattle.answer.specs.Answer.{accepted}
use Rattle.slices.specs.Lists.{at}
use Rattle.digest.specs.Sha256.{constants, start_words}
use Rattle.digest.specs.Constants.{RootBits, primes_below}
use Rattle.digest.specs.Padding.{ByteOrder, zeros_after, padding}
use Rattle.digest.specs.Message.{Algorithm, digest_of, limit}
use Rattle.digest.specs.Running.{accepts, start, fed, finished, feeding, finishing}
use Rattle.digest.specs.declared.running.Running.{Running}

-- FIPS 180-4, 4.2.2: "the cube roots of the first sixty-four prime numbers"
pub record ConstantsRule : Type 0 where
  pub primes : length (primes_below 312) ≡ 64
  pub table : length constants ≡ 64
  pub rule : (i : ℕ) → i < 64 → RootBits 3 (at (primes_below 312) i) (at constants i)

-- FIPS 180-4, 5.3.3: "the square roots of the first eight prime numbers"
pub record StartWordsRule : Type 0 where
  pub primes : length (primes_below 20) ≡ 8
  pub table : length start_words ≡ 8
  pub rule : (i : ℕ) → i < 8 → RootBits 2 (at (primes_below 20) i) (at start_words i)

-- FIPS 180-4, 5.1.1: the number k of zero bits after the bit 1 is "the smallest, non-negative solution"; seven of them stand in the byte
-- 0x80. The padded message fills whole blocks: its length is a multiple of 512 bits.
pub record FewestZeros (n : ℕ) : Type 0 where
  pub solves : (8 * n + 1 + (7 + 8 * zeros_after n)) % 512 ≡ 448
  pub smallest : (k : ℕ) → (8 * n + 1 + k) % 512 ≡ 448 → 7 + 8 * zeros_after n ≤ k
  pub whole : (order : ByteOrder) → (n + length (padding order n)) % 64 ≡ 0

-- two feedings are one feeding of all their bytes, from any running digest
abbrev pub TwoFeedings : Type 0
TwoFeedings = (a : Algorithm) (s : Running) (m n : List ℕ) → fed a (fed a s m) n ≡ fed a s (m ++ n)

-- the digest after feeding m from the start is that of the whole message m
abbrev pub DigestSoFar : Type 0
DigestSoFar = (a : Algorithm) (m : List ℕ) → finished a (fed a (start a) m) ≡ digest_of a m

-- ---- of the calls: `feeding` and `finishing` are what `feed` and `finish` return, by their contracts

-- the running digest after calls of feed, one for each part
unfoldable pub after_calls : Algorithm → Running → List (List ℕ) → Running
after_calls a s [] = s
after_calls a s (m ∷ parts) = after_calls a (feeding a s m).running parts

-- After calls of feed from any running digest that takes all their bytes, whatever its words are ("The words may be any eight", RULES
-- 10.3): one more call of feed is accepted where s accepts its bytes too, and a call of finish is accepted and gives the digest after
-- feeding all bytes at once.
pub record CallsFrom (a : Algorithm) (s : Running) (parts : List (List ℕ)) : Type 0 where
  pub state : after_calls a s parts ≡ fed a s (flatten parts)
  pub feed-answer : (m : List ℕ) → accepts s (length (flatten parts ++ m)) ≡ true → (feeding a (after_calls a s parts) m).answer ≡ accepted 0
  pub finish-answer : (finishing a (after_calls a s parts)).answer ≡ accepted 0
  pub finish-digest : (finishing a (after_calls a s parts)).digest ≡ finished a (fed a s (flatten parts))

-- After calls of feed from the start, whose bytes are within the limit: the same, and the digest is that of all bytes so far as one message
-- (`digest_of`; for `sha256` that of FIPS 180-4).
pub record CallsFromStart (a : Algorithm) (parts : List (List ℕ)) : Type 0 where
  pub feed-answer : (m : List ℕ) → length (flatten parts ++ m) ≤ limit → (feeding a (after_calls a (start a) parts) m).answer ≡ accepted 0
  pub finish-answer : (finishing a (after_calls a (start a) parts)).answer ≡ accepted 0
  pub finish-digest : (finishing a (after_calls a (start a) parts)).digest ≡ digest_of a (flatten parts)

-- All of them. The waiting bytes of the code stand in an array of 64, which a list does not say by itself.
pub record Theorems : Type 0 where
  pub constants-rule : ConstantsRule
  pub start-words-rule : StartWordsRule
  pub fewest-zeros : (n : ℕ) → FewestZeros n
  pub two-feedings : TwoFeedings
  pub digest-so-far : DigestSoFar
  pub calls : (a : Algorithm) (parts : List (List ℕ)) → length (flatten parts) ≤ limit → CallsFromStart a parts
  pub calls-from : (a : Algorithm) (s : Running) (parts : List (List ℕ)) → length s.waiting ≡ 64
      → accepts s (length (flatten parts)) ≡ true → CallsFrom a s parts
