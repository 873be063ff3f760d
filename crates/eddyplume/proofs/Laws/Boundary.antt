-- What the exported functions write, from what the functions below them give back. Assumes nothing.
use Rattle.std.specs.Prelude.{Option}
use Prim.Native.Nat.{ℕ}
use mathlib.Core.Path.{◌≡◌, refl, ap, ◌∙◌}
use mathlib.Core.List.{List, [], ◌∷◌}
use borrow.Author.Tests.{eq-eqb, ne_eqb}
use Rattle.answer.specs.declared.Answer.{Answer}
use Rattle.dataset.specs.declared.lookup.Found.{Found}
use Rattle.digest.specs.Running.{feeding, finishing}
use Rattle.digest.specs.Sha256.{sha256}
use Rattle.digest.specs.declared.message.Hashed.{Hashed}
use Rattle.digest.specs.declared.running.Running.{Running}
use Rattle.digest.specs.declared.running.Fed.{Fed}
use Rattle.digest.specs.declared.running.Finished.{Finished}
use Rattle.mac.specs.Result.{Result, verdict_code, Streamed, CheckedAs}
use Rattle.mac.specs.SignatureMode as mode
use Rattle.mac.specs.declared.verdict.Checked.{Checked}
use Rattle.eddyplume.specs.Boundary.{answer_words, flag, StreamedTo, CheckedTo, LookedUp, digest_after, HashedTo, Holds, FedTo, FinishedTo}

-- ---- the modes: the call is c, of the code's call b
module _ (c b : Result) (e : b ≡ c) (set out after : List ℕ) (words : List ℕ) where
  pub streamed-to : (a : Answer) → Streamed b set out a after → words ≡ answer_words a → StreamedTo c set out after words
  streamed-to a s q = rw (← e) record { answers = q ∙ ap answer_words s.answers; output = s.output; bytes = s.bytes }

  pub checked-to : (r : Checked) (code : ℕ) → CheckedAs b set out r after → words ≡ answer_words r.answer → code ≡ verdict_code r.verdict
      → CheckedTo c set out after words (code ∷ [])
  checked-to r code s q k =
      rw (← e) record {
        answers = q ∙ ap answer_words s.answers;
        says = ap (λ (n : ℕ). n ∷ []) (k ∙ s.says);
        output = s.output;
        bytes = s.bytes;
      }

-- measuring, which answers c, and in the code b
pub measured-to : (c b : Answer) → b ≡ c → (a : Answer) → a ≡ b → (words : List ℕ) → words ≡ answer_words a → words ≡ answer_words c
measured-to c b e a s words q = q ∙ ap answer_words (s ∙ e)

-- in signature mode they differ in the choice of the signature
pub same-measure : (uid : List ℕ) (w v : Option ℕ) (d : List ℕ) → w ≡ v → mode.measure uid w d ≡ mode.measure uid v d
same-measure uid w v d e = rw e

pub same-stream-call : (uid : List ℕ) (w v : Option ℕ) (d out : List ℕ) → w ≡ v
    → mode.result (mode.stream_call uid w d out) ≡ mode.result (mode.stream_call uid v d out)
same-stream-call uid w v d out e = rw e

pub same-check-call : (uid : List ℕ) (w v : Option ℕ) (d expected work : List ℕ) → w ≡ v
    → mode.result (mode.check_call uid w d expected work) ≡ mode.result (mode.check_call uid v d expected work)
same-check-call uid w v d expected work e = rw e

-- ---- the lookup
pub looked-up : (f g : Found) (words : List ℕ) (p : ℕ) → g ≡ f → words ≡ answer_words g.answer → p ≡ flag g.present
    → LookedUp f words (p ∷ g.start ∷ g.length ∷ [])
looked-up f g words p e q k = rw (← e) record { answers = q; parts = rw k }

-- ---- the digest
module _ (a : Answer) (digest before : List ℕ) where
  written : a.number ≡ 0 → digest ≡ digest_after a digest before
  written h = rw (eq-eqb a.number 0 h)

  kept : (a.number ≡ 0 → ⊥) → before ≡ digest_after a digest before
  kept h = rw (ne_eqb a.number 0 h)

module _ (h g : Hashed) (e : g ≡ h) (before words : List ℕ) (q : words ≡ answer_words g.answer) where
  pub hashed-to : g.answer.number ≡ 0 → HashedTo h before g.digest words
  hashed-to z = rw (← e) record { answers = q; output = written g.answer g.digest before z }

  pub hashed-refused : (g.answer.number ≡ 0 → ⊥) → HashedTo h before before words
  hashed-refused z = rw (← e) record { answers = q; output = kept g.answer g.digest before z }

pub started : (s t : Running) → s ≡ t → Holds t s.words s.waiting (s.count ∷ s.total ∷ [])
started s t e = rw (← e) record { of_words = refl; of-waiting = refl; of-counts = refl }

-- s is the running digest t that the arrays hold
module _ (s t : Running) (k : s ≡ t) (words : List ℕ) where
  pub fed-to : (m : List ℕ) (f : Fed) → f ≡ feeding sha256 s m → words ≡ answer_words f.answer
      → FedTo (feeding sha256 t m) f.running.words f.running.waiting (f.running.count ∷ f.running.total ∷ []) words
  fed-to m f e q = rw (← k, ← e) record { answers = q; next = record { of_words = refl; of-waiting = refl; of-counts = refl } }

  module _ (f : Finished) (e : f ≡ finishing sha256 s) (before : List ℕ) (q : words ≡ answer_words f.answer) where
    pub finished-to : f.answer.number ≡ 0 → FinishedTo (finishing sha256 t) before f.digest words
    finished-to z = rw (← k, ← e) record { answers = q; output = written f.answer f.digest before z }

    pub finish-refused : (f.answer.number ≡ 0 → ⊥) → FinishedTo (finishing sha256 t) before before words
    finish-refused z = rw (← k, ← e) record { answers = q; output = kept f.answer f.digest before z }
