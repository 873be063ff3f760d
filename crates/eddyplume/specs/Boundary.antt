-- What the exported functions write, in C's values (include/eddyplume.h): docs/RULES.md, 12. An array of the code is the list of its
-- numbers. `StreamedTo` and `CheckedTo` are `Streamed` and `CheckedAs` of mac with the answer as three numbers; specs/Theorems.antt says of
-- these, too, what is proved of those.
-- Assumes nothing.
use Rattle.std.specs.Prelude.{ℕ, ◌≡◌, Bool, true, false, List, [], ◌∷◌, Option, Some, None, eqb, get_or, if◌then◌else◌}
use Rattle.answer.specs.declared.Answer.{Answer}
use Rattle.slices.specs.Lists.{OfBytes}
use Rattle.dataset.specs.declared.lookup.Found.{Found}
use Rattle.digest.specs.Running.{feeding, finishing}
use Rattle.digest.specs.Sha256.{sha256}
use Rattle.digest.specs.declared.message.Hashed.{Hashed}
use Rattle.digest.specs.declared.running.Running.{Running}
use Rattle.digest.specs.declared.running.Fed.{Fed}
use Rattle.digest.specs.declared.running.Finished.{Finished}
use Rattle.mac.specs.ListMode as list_mode
use Rattle.mac.specs.Result.{Result, output_after, verdict_of}
use Rattle.mac.specs.SignatureMode as signature_mode

-- uint64_t answer[3]: number, position, length
abbrev pub answer_words : Answer → List ℕ
answer_words a = a.number ∷ a.position ∷ a.length ∷ []

-- bool numbered, uint64_t number: a signature number, or none (docs/DECISIONS.md, S8)
abbrev pub which_of : (numbered : Bool) (number : ℕ) → Option ℕ
which_of true number = Some number
which_of false number = None

-- a call for the stream on the data set `set`: what is left in the output and in `answer`
pub record StreamedTo (c : Result) (set out after answer : List ℕ) : Type 0 where
  pub answers : answer ≡ answer_words c.answer
  pub output : after ≡ output_after c out
  pub bytes : OfBytes set

-- a check: what is left in the work buffer, in `answer` and in `verdict`, uint8_t verdict[1]: 0 neither, 1 same, 2 differs (docs/DECISIONS.md,
-- B3)
pub record CheckedTo (c : Result) (set work after answer verdict : List ℕ) : Type 0 where
  pub answers : answer ≡ answer_words c.answer
  pub says : verdict ≡ verdict_of c ∷ []
  pub output : after ≡ output_after c work
  pub bytes : OfBytes set

-- eddyplume_list_measure, a measuring call (7.9): what is left in `answer`
abbrev pub ListMeasured : (list set answer : List ℕ) → Type 0
ListMeasured list set answer = answer ≡ answer_words (list_mode.measure list set)

-- eddyplume_signature_measure
abbrev pub SignatureMeasured : (uid : List ℕ) (numbered : Bool) (number : ℕ) (set answer : List ℕ) → Type 0
SignatureMeasured uid numbered number set answer = answer ≡ answer_words (signature_mode.measure uid (which_of numbered number) set)

-- eddyplume_list_stream
abbrev pub ListStreamed : (list set out after answer : List ℕ) → Type 0
ListStreamed list set out after answer = StreamedTo (list_mode.result (list_mode.stream_call list set out)) set out after answer

-- eddyplume_list_check
abbrev pub ListChecked : (list set expected work after answer verdict : List ℕ) → Type 0
ListChecked list set expected work after answer verdict =
    CheckedTo (list_mode.result (list_mode.check_call list set expected work)) set work after answer verdict

-- eddyplume_signature_stream
abbrev pub SignatureStreamed : (uid : List ℕ) (numbered : Bool) (number : ℕ) (set out after answer : List ℕ) → Type 0
SignatureStreamed uid numbered number set out after answer =
    StreamedTo (signature_mode.result (signature_mode.stream_call uid (which_of numbered number) set out)) set out after answer

-- eddyplume_signature_check
abbrev pub SignatureChecked : (uid : List ℕ) (numbered : Bool) (number : ℕ) (set expected work after answer verdict : List ℕ) → Type 0
SignatureChecked uid numbered number set expected work after answer verdict =
    CheckedTo (signature_mode.result (signature_mode.check_call uid (which_of numbered number) set expected work)) set work after answer verdict

-- a yes or no: 1 or 0
abbrev pub flag : Bool → ℕ
flag true = 1
flag false = 0

-- uint64_t part[3]: present, start, length of the value in the data set (docs/DECISIONS.md, B3)
pub record LookedUp (f : Found) (answer part : List ℕ) : Type 0 where
  pub answers : answer ≡ answer_words f.answer
  pub parts : part ≡ flag f.present ∷ f.start ∷ f.length ∷ []

-- 12.2: "What 7.3 says of a refused call holds in C for every output, work buffer and digest; .. Where 25 is answered no byte of `digest` is
-- written" (docs/DECISIONS.md, B1)
abbrev pub digest_after : Answer → (digest before : List ℕ) → List ℕ
digest_after a digest before = if eqb a.number 0 then digest else before

-- a whole message: what is left in `digest` and in `answer`
pub record HashedTo (h : Hashed) (before after answer : List ℕ) : Type 0 where
  pub answers : answer ≡ answer_words h.answer
  pub output : after ≡ digest_after h.answer h.digest before

-- the running digest in its three arrays; uint64_t counts[2]: waiting count, total (docs/DECISIONS.md, B3)
pub record Holds (s : Running) (words waiting counts : List ℕ) : Type 0 where
  pub of_words : words ≡ s.words
  pub of-waiting : waiting ≡ s.waiting
  pub of-counts : counts ≡ s.count ∷ s.total ∷ []

-- the running digest that three arrays hold
abbrev pub running_of : (words waiting counts : List ℕ) → Running
running_of words waiting counts = record { words = words; waiting = waiting; count = get_or counts 0 0; total = get_or counts 1 0 }

-- a feeding: what is left in the three arrays and in `answer`
pub record FedTo (f : Fed) (words waiting counts answer : List ℕ) : Type 0 where
  pub answers : answer ≡ answer_words f.answer
  pub next : Holds f.running words waiting counts

-- a finishing: what is left in `digest` and in `answer`
pub record FinishedTo (f : Finished) (before after answer : List ℕ) : Type 0 where
  pub answers : answer ≡ answer_words f.answer
  pub output : after ≡ digest_after f.answer f.digest before

-- eddyplume_digest_feed
abbrev pub DigestFed : (words waiting counts bytes words' waiting' counts' answer : List ℕ) → Type 0
DigestFed words waiting counts bytes words' waiting' counts' answer =
    FedTo (feeding sha256 (running_of words waiting counts) bytes) words' waiting' counts' answer

-- eddyplume_digest_finish
abbrev pub DigestFinished : (words waiting counts before after answer : List ℕ) → Type 0
DigestFinished words waiting counts before after answer =
    FinishedTo (finishing sha256 (running_of words waiting counts)) before after answer
