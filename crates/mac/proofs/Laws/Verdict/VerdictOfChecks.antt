-- 9, the digest by its algorithm, and the verdict of a check, place by place, with the facts of the place as premises. Assumes nothing.
use Prim.Native.Nat.{ℕ, ◌≤◌}
use mir.Syntax.{w8}
use mir.Val.{Fits}
use mathlib.Core.Path.{◌≡◌, refl, sym, ap, ◌∙◌}
use mathlib.Core.Bool.{Bool, true, false}
use mathlib.Core.List.{List, ◌++◌}
use mathlib.Core.Option.{Option, some}
use mathlib.Core.Option as Opt
use native.Mathlib.Omega.{arith}
use lib.ListN.{length, take, drop, get_or}
use lib.Seq.{take_at}
use borrow.Author.Tests.{eq-eqb, ne_eqb, le-leb}
use Rattle.answer.specs.declared.Answer.{Answer}
use Rattle.answer.specs.Answer.{accepted, refused}
use Rattle.digest.specs.Message.{limit, digest_of, hashing}
use Rattle.digest.specs.Sha256.{sha256}
use Rattle.stream.specs.Walk.{left_in}
use Rattle.digest.specs.declared.message.Hashed.{Hashed}
use Rattle.mac.specs.Result.{Result, output_after, same, differs, verdict_code, compared, verdict_of, Streamed, CheckedAs}
use Rattle.slices.specs.Lists.{same_bytes}
use Rattle.selection.specs.declared.select.Algorithm.{Algorithm}
use Rattle.selection.specs.declared.select.Algorithm.TheVariants as algorithm
use Rattle.mac.specs.Inner.Verdict.{CheckOf, standard, digest_length, length_of, length_answer, refused_check}
use Rattle.mac.specs.Inner.Calls.{Left, CallAnswered}
use Rattle.answer.specs.Step.{test_by, answer_by}
use Rattle.answer.proofs.Laws.Steps.{IsWhole, step-answer, step-is, step-accepted}
use Rattle.std.specs.Prelude as code
use Rattle.std.specs.Prelude.{Some, None, Ok, Err, IfOk}
use Rattle.mac.specs.declared.verdict.Verdict.{Verdict}
use Rattle.mac.specs.declared.verdict.Checked.{Checked}

-- ---- the algorithm, of which there is one
pub sha256-length : (of : Algorithm) → 32 ≡ digest_length of
sha256-length algorithm.Sha256 = refl

pub sha256-digest : (of : Algorithm) (m : List ℕ) (g : Hashed) → g ≡ hashing sha256 m → g ≡ hashing (standard of) m
sha256-digest algorithm.Sha256 m g q = q

-- ---- 9
module _ (of : Algorithm) (e : code.Option ℕ) where
  pub length_none : e ≡ None → Ok tt ≡ test_by (length_answer of e)
  unfolding test_by
  length_none q = rw q

  module _ (n right : ℕ) (q : e ≡ Some n) (w : right ≡ digest_length of) where
    pub length-wrong : (a : Answer) → (n ≡ right → ⊥) → a ≡ refused 9 0 → Err a ≡ test_by (length_answer of e)
    unfolding test_by
    length-wrong a h k = rw (q, ← w, ne_eqb n right h, k)

    pub length-right : n ≡ right → Ok tt ≡ test_by (length_answer of e)
    unfolding test_by
    length-right h = rw (q, ← w, eq-eqb n right h)

-- ---- the verdict
module _ (digest expected : List ℕ) (b : Bool) (e : b ≡ same_bytes digest expected) where
  pub says_same : b ≡ true → same ≡ compared (some expected) digest
  says_same t = rw (← e, t)

  pub says-differs : b ≡ false → differs ≡ compared (some expected) digest
  says-differs t = rw (← e, t)

-- ---- a check, by the answer of its stream
hashes : (of : Algorithm) (m : List ℕ) → length m ≤ limit → (hashing (standard of) m).digest ≡ digest_of sha256 m
unfolding hashing
hashes algorithm.Sha256 m h = rw (le-leb (length m) limit h)

module _ (of : Algorithm) (w : code.Result ℕ Answer) (expected work : List ℕ) where
  pub check-refused : (a : Answer) (r : Checked) → w ≡ Err a → r ≡ refused_check a → CheckOf of w expected work r
  check-refused a r q e = rw (q, e) refl

  pub check-said : (n : ℕ) (g : Hashed) (v : Verdict) (a : Answer) → w ≡ Ok n → g ≡ hashing (standard of) (take n work)
      → verdict_code v ≡ compared (some expected) g.digest → a ≡ accepted n → CheckOf of w expected work (record { answer = a; verdict = v })
  check-said n g v a q h u e = rw q (e, u ∙ ap (λ (x : Hashed). compared (some expected) x.digest) h)

-- ---- a call in either mode

-- the elements of a slice of bytes fit a byte
abbrev pub AllFit : List ℕ → Type 0
AllFit d = (i : ℕ) → Fits w8 (get_or d i 0)

module _ (call : Option (List ℕ) → Result) (d out after : List ℕ) (r : code.Result ℕ Answer) where
  pub call-streamed : (a : Answer) → a ≡ answer_by r → CallAnswered call (length_of Opt.none) limit out r after → IsWhole (call Opt.none).answer → AllFit d
      → Streamed (call Opt.none) d out a after
  call-streamed a e s w b =
      let t = s.streamed Opt.none refl in
      record { answers = e ∙ step-answer r (call Opt.none).answer t.answers w; output = t.output; bytes = λ i. (b i).fits }

  pub call-room : (given : code.Option ℕ) → CallAnswered call given limit out r after → length after ≡ length out → IfOk r (λ n. n ≤ length after)
  call-room given s k = go r refl
    where
      go : (v : code.Result ℕ Answer) → r ≡ v → IfOk v (λ n. n ≤ length after)
      go (Ok n) q = omega (arith, s.room n q)
      go (Err a) q = tt

module _ (call : Option (List ℕ) → Result) (d expected work after : List ℕ) (w : code.Result ℕ Answer)
    (s : CallAnswered call (length_of (some expected)) limit work w after) (e : (call (some expected)).expected ≡ some expected) (b : AllFit d) where
  abbrev c : Result
  c = call (some expected)

  t : Left c work w after
  t = s.streamed (some expected) refl

  -- what is digested is the stream
  digested : (n : ℕ) → w ≡ Ok n → take n after ≡ c.stream
  unfolding output_after left_in
  digested n q =
      let z = (step-accepted w c.answer t.answers n q).0 in
      let y : after ≡ c.stream ++ drop (length c.stream) work = t.output ∙ rw (eq-eqb c.answer.number 0 z) in
      rw y (take_at c.stream (drop (length c.stream) work) n (sym (s.long (some expected) n q)))

  -- a refused one says neither
  pub call-neither : (a : Answer) (r : Checked) → w ≡ Err a → r ≡ refused_check a → CheckedAs c d work r after
  unfolding verdict_of
  call-neither a r q k =
      let f = step-is w c.answer t.answers a q in
      record {
        answers = rw k f.0;
        says = rw (k, ← f.0, ne_eqb a.number 0 λ z. f.1 (ap (λ (x : Answer). x.number) (sym f.0) ∙ z));
        output = t.output;
        bytes = λ i. (b i).fits;
      }

  call-said : (of : Algorithm) (n : ℕ) (r : Checked) → w ≡ Ok n → IsWhole c.answer → r.answer ≡ accepted n
      → verdict_code r.verdict ≡ compared (some expected) (hashing (standard of) (take n after)).digest → CheckedAs c d work r after
  unfolding verdict_of
  call-said of n r q o k v =
      let f = step-accepted w c.answer t.answers n q in
      let m : length c.stream ≤ limit = omega (arith, s.long (some expected) n q, s.short n q) in
      record {
        answers = k ∙ rw f.1 (sym (o f.0));
        says = v ∙ rw (digested n q, hashes of c.stream m, e, eq-eqb c.answer.number 0 f.0);
        output = t.output;
        bytes = λ i. (b i).fits;
      }

  pub call-checked : (of : Algorithm) (r : Checked) → IsWhole c.answer → CheckOf of w expected after r → CheckedAs c d work r after
  call-checked of r o k = go w refl k
    where
      go : (v : code.Result ℕ Answer) → w ≡ v → CheckOf of v expected after r → CheckedAs c d work r after
      go (Err a) q h = call-neither a r q h
      go (Ok n) q h = call-said of n r q o h.0 h.1
