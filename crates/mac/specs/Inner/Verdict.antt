-- For inner contracts; no part of what a reader has to believe: the check, by the answer of its stream.
-- Assumes nothing.
use Rattle.std.specs.Prelude as code
use Rattle.std.specs.Prelude.{ℕ, ◌≡◌, not, List, Some, None, Ok, Err, eqb, length, take, if◌then◌else◌}
use Rattle.std.proofs.Math.Option.{Option, some}
use Rattle.std.proofs.Math.Option as Opt
use Rattle.answer.specs.declared.Answer.{Answer}
use Rattle.answer.specs.Answer.{accepted, refused}
use Rattle.digest.specs.Message.{hashing}
use Rattle.digest.specs.Message as digest
use Rattle.digest.specs.Sha256.{sha256}
use Rattle.selection.specs.declared.select.Algorithm.{Algorithm}
use Rattle.selection.specs.declared.select.Algorithm.TheVariants as algorithm
use Rattle.mac.specs.Result.{verdict_code, compared}
use Rattle.mac.specs.declared.verdict.Checked.{Checked}
use Rattle.mac.specs.declared.verdict.Verdict.TheVariants as verdict

-- ---- the code's cases of an algorithm: the definition of its digest, and how many bytes that has

abbrev pub standard : Algorithm → digest.Algorithm
standard algorithm.Sha256 = sha256

abbrev pub digest_length : Algorithm → ℕ
digest_length a = (standard a).size

-- ---- a check

-- an expected digest as it is handed down
abbrev pub length_of : Option (List ℕ) → code.Option ℕ
length_of Opt.none = None
length_of (some e) = Some (length e)

-- 9, by what is handed down; or else number 0
abbrev pub length_answer : Algorithm → code.Option ℕ → Answer
length_answer a None = accepted 0
length_answer a (Some n) = if not (eqb n (digest_length a)) then refused 9 0 else accepted 0

-- one that is refused
abbrev pub refused_check : Answer → Checked
refused_check a = record { answer = a; verdict = verdict.Neither }

-- by the algorithm and the step that wrote its stream: its refusal; or what the digest of that many bytes of the work buffer says
abbrev pub CheckOf : (of : Algorithm) → code.Result ℕ Answer → (expected work : List ℕ) → Checked → Type 0
CheckOf of (Err a) expected work r = r ≡ refused_check a
CheckOf of (Ok n) expected work r =
    (r.answer ≡ accepted n) × (verdict_code r.verdict ≡ compared (some expected) (hashing (standard of) (take n work)).digest)
