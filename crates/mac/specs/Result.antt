-- What a call in either mode comes to: its answer, what it leaves in the output, and what a check says.
-- Assumes nothing.
use Rattle.std.specs.Prelude.{ℕ, ◌≡◌, Bool, List, eqb, if◌then◌else◌}
use Rattle.std.proofs.Math.Option.{Option, some}
use Rattle.std.proofs.Math.Option as Opt
use Rattle.answer.specs.declared.Answer.{Answer}
use Rattle.slices.specs.Lists.{OfBytes, same_bytes}
use Rattle.digest.specs.Message.{digest_of}
use Rattle.digest.specs.Sha256.{sha256}
use Rattle.stream.specs.Walk.{left_in}
use Rattle.mac.specs.declared.verdict.Verdict.{Verdict}
use Rattle.mac.specs.declared.verdict.Verdict.TheVariants as verdict
use Rattle.mac.specs.declared.verdict.Checked.{Checked}

-- the answer; the stream, which is written where the answer is 0; and the expected digest of a check
pub record Result : Type 0 where
  pub answer : Answer
  pub stream : List ℕ
  pub expected : Option (List ℕ)

-- accepted, a term of RULES 7.1: "A call with number 0 is accepted."
abbrev pub is_accepted : Result → Bool
is_accepted c = eqb c.answer.number 0

-- what is left in the output or work buffer `out`: 7.3, 7.4
unfoldable pub output_after : Result → (out : List ℕ) → List ℕ
output_after c out = left_in c.answer c.stream out

-- what a check says, as a number; a call for the stream says neither
abbrev pub neither : ℕ
neither = 0

abbrev pub same : ℕ
same = 1

abbrev pub differs : ℕ
differs = 2

-- the cases of Verdict (src/verdict.rt), by their numbers (13.2)
abbrev pub verdict_code : Verdict → ℕ
verdict_code verdict.Neither = neither
verdict_code verdict.Same = same
verdict_code verdict.Differs = differs

-- of a check, by its expected digest
abbrev pub compared : Option (List ℕ) → (digest : List ℕ) → ℕ
compared Opt.none digest = neither
compared (some e) digest = if same_bytes digest e then same else differs

-- 7.4: an accepted check says "same" or "differs". "A check that is refused says neither of the two."
unfoldable pub verdict_of : Result → ℕ
verdict_of c = if is_accepted c then compared c.expected (digest_of sha256 c.stream) else neither

-- ---- what the functions promise

-- What a call for the stream on the data set `set` gives back, r, and leaves in the output. The data set is a slice of bytes: that makes it a
-- list of bytes, on which demand 3 rests.
pub record Streamed (c : Result) (set out : List ℕ) (r : Answer) (after : List ℕ) : Type 0 where
  pub answers : r ≡ c.answer
  pub output : after ≡ output_after c out
  pub bytes : OfBytes set

-- what a check gives back, r, and leaves in the work buffer
pub record CheckedAs (c : Result) (set work : List ℕ) (r : Checked) (after : List ℕ) : Type 0 where
  pub answers : r.answer ≡ c.answer
  pub says : verdict_code r.verdict ≡ verdict_of c
  pub output : after ≡ output_after c work
  pub bytes : OfBytes set
