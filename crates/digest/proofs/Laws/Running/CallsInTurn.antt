-- What calls give one after the other: the digest of all bytes so far, from the start and from any possible running digest.
-- Assumes nothing.
use Rattle.std.proofs.Common.{◌≡◌, ℕ, ◌+◌, ◌<◌, ◌≤◌, Bool, true, false, Result, Ok, Err, if◌then◌else◌, leb, List, [], ◌∷◌, ◌++◌, length, replicate, sym, refl, ap, ◌∙◌, zero-add, arith, length-append, le-leb, leb-false, leb-true}
use mathlib.Core.Bool.{and-eq-true_iff, false≢true}
use mathlib.Core.List.{flatten}
use borrow.Author.Tests.{lt-leb}
use lib.ListN.{length-replicate}
use Rattle.answer.specs.Answer.{accepted, refused}
use Rattle.digest.specs.Message.{Algorithm, digest_of, limit, hashing}
use Rattle.digest.specs.Running.{possible, accepts, start, fed, finished, feeding, finishing}
use Rattle.slices.specs.Lists.{all_are}
use Rattle.digest.specs.Inner.Steps.{feeding_step, finishing_step, hashing_step}
use Rattle.answer.specs.declared.Answer.{Answer}
use Rattle.digest.specs.Theorems.{after_calls, CallsFromStart, CallsFrom}
use Rattle.digest.specs.declared.running.Running.{Running}
use Rattle.digest.specs.declared.running.Fed.{Fed}
use Rattle.digest.specs.declared.running.Finished.{Finished}
use Rattle.digest.specs.declared.message.Hashed.{Hashed}
use Rattle.digest.proofs.Laws.Running.Chain.{length_rest}
use Rattle.digest.proofs.Laws.Running.WaitingArray.{ready, accepts-within, accepts-past, fed-few, waiting-filled}
use Rattle.digest.proofs.Laws.Running.Feeding.{two-feedings, digest-so-far, accepts-fed}
use Rattle.digest.proofs.Laws.Running.AcceptedCalls.{feeding-accepted, feeding-refused, finishing-accepted, hashing-accepted, hashing-refused}

-- ---- the test, fewer bytes and from the start
accepts-fewer : (s : Running) (n k : ℕ) → k ≤ n → accepts s n ≡ true → accepts s k ≡ true
unfolding accepts
accepts-fewer s n k h e =
    let r = ready s n e in
    sym (accepts-within s k true (omega arith) (sym ((and-eq-true_iff _ _).0 e).0))

accepts-start : (a : Algorithm) (n : ℕ) → accepts (start a) n ≡ leb n limit
unfolding accepts possible start all_are
accepts-start a n = ap (λ (k : ℕ). leb k limit) (zero-add n)

-- ---- a row of calls
waiting-64 : (a : Algorithm) (s : Running) (m : List ℕ) → length (fed a s m).waiting ≡ 64
unfolding fed
waiting-64 a s m = simp (length-append, length-replicate, length_rest) (omega arith)

-- no bytes fed: nothing changes
fed-nothing : (a : Algorithm) (s : Running) → length s.waiting ≡ 64 → accepts s 0 ≡ true → s ≡ fed a s []
fed-nothing a s l e =
    let r = ready s 0 e in
    let few = fed-few a s [] l s.waiting (omega (arith, r.counted)) (waiting-filled s l (omega (arith, r.counted)) r.empty) in
    let c : s.count ≡ s.count + 0 = omega arith in
    let t : s.total ≡ s.total + 0 = omega arith in
    (λ i. record { words = s.words; waiting = s.waiting; count = c i; total = t i }) ∙ few

calls_are : (a : Algorithm) (s : Running) (parts : List (List ℕ)) → length s.waiting ≡ 64 → accepts s (length (flatten parts)) ≡ true
    → after_calls a s parts ≡ fed a s (flatten parts)
unfolding after_calls flatten
calls_are a s [] l e = fed-nothing a s l e
calls_are a s (m ∷ parts) l e =
    let all = m ++ flatten parts in
    let n : length all ≡ length m + length (flatten parts) = length-append m (flatten parts) in
    let r = ready s (length all) e in
    let first : (feeding a s m).running ≡ fed a s m = ap (λ (f : Fed). f.running) (feeding-accepted a s m (accepts-fewer s (length all) (length m) (omega arith) e)) in
    ap (λ (t : Running). after_calls a t parts) first
    ∙ calls_are a (fed a s m) parts (waiting-64 a s m) (accepts-fed a s m (length (flatten parts)) l r.counted (omega (arith, r.within)))
    ∙ two-feedings a s m (flatten parts)

-- finishing after a feeding that the running digest takes
finishing-fed : (a : Algorithm) (s : Running) (m : List ℕ) → length s.waiting ≡ 64 → accepts s (length m) ≡ true
    → finishing a (fed a s m) ≡ record { answer = accepted 0; digest = finished a (fed a s m); running = fed a s m }
finishing-fed a s m l e =
    let r = ready s (length m) e in
    finishing-accepted a (fed a s m) (accepts-fed a s m 0 l r.counted (omega (arith, r.within)))

pub calls-from : (a : Algorithm) (s : Running) (parts : List (List ℕ)) → length s.waiting ≡ 64
    → accepts s (length (flatten parts)) ≡ true → CallsFrom a s parts
calls-from a s parts l e =
    let state = calls_are a s parts l e in
    let done = ap (finishing a) state ∙ finishing-fed a s (flatten parts) l e in
    record {
      state = state;
      feed-answer = λ m h.
          let r = ready s (length (flatten parts ++ m)) h in
          let n : length (flatten parts ++ m) ≡ length (flatten parts) + length m = length-append (flatten parts) m in
          let takes = accepts-fed a s (flatten parts) (length m) l r.counted (omega (arith, r.within)) in
          ap (λ (t : Running). (feeding a t m).answer) state ∙ ap (λ (f : Fed). f.answer) (feeding-accepted a (fed a s (flatten parts)) m takes);
      finish-answer = ap (λ (f : Finished). f.answer) done;
      finish-digest = ap (λ (f : Finished). f.digest) done;
    }

pub calls : (a : Algorithm) (parts : List (List ℕ)) → length (flatten parts) ≤ limit → CallsFromStart a parts
unfolding start
calls a parts l =
    let takes : (n : ℕ) → n ≤ limit → accepts (start a) n ≡ true = λ n h. accepts-start a n ∙ le-leb n limit h in
    let from = calls-from a (start a) parts refl (takes (length (flatten parts)) l) in
    record {
      feed-answer = λ m h. from.feed-answer m (takes (length (flatten parts ++ m)) h);
      finish-answer = from.finish-answer;
      finish-digest = from.finish-digest ∙ digest-so-far a (flatten parts);
    }

-- ---- a message fed in parts: x was fed, y is the next part
accepts-after : (a : Algorithm) (x : List ℕ) (n : ℕ) (b : Bool) → leb (length x + n) limit ≡ b → accepts (fed a (start a) x) n ≡ b
unfolding start fed
accepts-after a x n true e =
    let h : length x + n ≤ limit = leb-true (length x + n) limit e in
    accepts-fed a (start a) x n refl refl (omega arith)
accepts-after a x n false e =
    let h : limit < length x + n = leb-false (length x + n) limit e in
    sym (accepts-past (fed a (start a) x) n (omega arith))

-- nothing was fed yet
pub start-fed : (a : Algorithm) → start a ≡ fed a (start a) []
unfolding start
start-fed a = fed-nothing a (start a) refl (accepts-start a 0)

-- what is in a step
is_ok : {A B : Type 0} → Result A B → Bool
is_ok (Ok x) = true
is_ok (Err e) = false

value_or : {A B : Type 0} → A → Result A B → A
value_or y (Ok x) = x
value_or y (Err e) = y

error_or : {A B : Type 0} → B → Result A B → B
error_or y (Ok x) = y
error_or y (Err e) = e

module _ (a : Algorithm) where
  module _ (x y : List ℕ) where
    fed_by : (b : Bool) → leb (length x + length y) limit ≡ b → Fed
    fed_by true e = record { answer = accepted 0; running = fed a (start a) (x ++ y) }
    fed_by false e = record { answer = refused 25 0; running = fed a (start a) x }

    feeding-next : (b : Bool) (e : leb (length x + length y) limit ≡ b) → feeding a (fed a (start a) x) y ≡ fed_by b e
    unfolding fed_by
    feeding-next true e =
        feeding-accepted a (fed a (start a) x) y (accepts-after a x (length y) true e)
        ∙ ap (λ (s : Running). record { answer = accepted 0; running = s }) (two-feedings a (start a) x y)
    feeding-next false e = feeding-refused a (fed a (start a) x) y (accepts-after a x (length y) false e)

    -- the part is taken
    taken-by : (b : Bool) → leb (length x + length y) limit ≡ b → (f : Fed) → f ≡ feeding a (fed a (start a) x) y → f.answer.number ≡ 0
        → (f.running ≡ fed a (start a) (x ++ y)) × (length (x ++ y) ≤ limit)
    unfolding fed_by
    taken-by true e f p n =
        let h : length x + length y ≤ limit = leb-true (length x + length y) limit e in
        (ap (λ (r : Fed). r.running) (p ∙ feeding-next true e), simp length-append (omega arith))
    taken-by false e f p n =
        let z : 25 ≡ f.answer.number = sym (ap (λ (r : Fed). r.answer.number) (p ∙ feeding-next false e)) in
        absurd (omega arith)

    -- the part is refused: the whole message, whatever follows the part, is too long
    refused-by : (b : Bool) → leb (length x + length y) limit ≡ b → (f : Fed) (m : List ℕ) → f ≡ feeding a (fed a (start a) x) y
        → (f.answer.number ≡ 0 → ⊥)
        → length x + length y ≤ length m → ◌≡◌ {A = Hashed} (record { answer = f.answer; digest = replicate a.size 0 }) (hashing a m)
    unfolding fed_by
    refused-by true e f m p n l = absurd (n (ap (λ (r : Fed). r.answer.number) (p ∙ feeding-next true e)))
    refused-by false e f m p n l =
        let h : limit < length x + length y = leb-false (length x + length y) limit e in
        cc (feeding-next false e, hashing-refused a m (lt-leb (length m) limit (omega arith)))

    pub part-taken : (f : Fed) → f ≡ feeding a (fed a (start a) x) y → f.answer.number ≡ 0
        → (f.running ≡ fed a (start a) (x ++ y)) × (length (x ++ y) ≤ limit)
    part-taken = taken-by (leb (length x + length y) limit) refl

    pub part-refused : (f : Fed) (m : List ℕ) → f ≡ feeding a (fed a (start a) x) y → (f.answer.number ≡ 0 → ⊥)
        → length x + length y ≤ length m → ◌≡◌ {A = Hashed} (record { answer = f.answer; digest = replicate a.size 0 }) (hashing a m)
    part-refused = refused-by (leb (length x + length y) limit) refl

  -- all of the message was fed
  pub parts-finished : (m : List ℕ) (g : Finished) → g ≡ finishing a (fed a (start a) m) → length m ≤ limit
      → ◌≡◌ {A = Hashed} (record { answer = g.answer; digest = g.digest }) (hashing a m)
  unfolding start
  parts-finished m g p l =
      let e : leb (length m) limit ≡ true = le-leb (length m) limit l in
      let q = p ∙ finishing-fed a (start a) m refl (accepts-start a (length m) ∙ e) in
      cc (hashing-accepted a m e, digest-so-far a m, q)

  -- ---- the same as steps that may fail
  feeding-step-start : (m : List ℕ) (b : Bool) → leb (length m) limit ≡ b
      → feeding_step a (start a) m ≡ (if b then Ok (fed a (start a) m) else Err (refused 25 0))
  unfolding feeding_step
  feeding-step-start m b e = let k = accepts-start a (length m) ∙ e in rw k refl

  pub step-refused : (m : List ℕ) (s : Running) (r : Result Running Answer) (e : Answer) → s ≡ start a → r ≡ feeding_step a s m → r ≡ Err e
      → Err e ≡ hashing_step a m
  unfolding hashing_step error_or is_ok
  step-refused m s r e p q k = go (leb (length m) limit) refl
    where
      go : (b : Bool) → leb (length m) limit ≡ b → ◌≡◌ {A = Result (List ℕ) Answer} (Err e) (if b then Ok (digest_of a m) else Err (refused 25 0))
      go true h = absurd (false≢true (ap is_ok (sym k ∙ q ∙ ap (λ (t : Running). feeding_step a t m) p ∙ feeding-step-start m true h)))
      go false h = ap (λ (x : Answer). Err x) (ap (error_or e) (sym k ∙ q ∙ ap (λ (t : Running). feeding_step a t m) p ∙ feeding-step-start m false h))

  pub step-taken : (m : List ℕ) (s x : Running) (r : Result Running Answer) (d : Result (List ℕ) Answer) → s ≡ start a → r ≡ feeding_step a s m → r ≡ Ok x
      → d ≡ finishing_step a x → d ≡ hashing_step a m
  unfolding hashing_step finishing_step start is_ok value_or
  step-taken m s x r d p q k f = f ∙ go (leb (length m) limit) refl
    where
      go : (b : Bool) → leb (length m) limit ≡ b → finishing_step a x ≡ (if b then Ok (digest_of a m) else Err (refused 25 0))
      go true h =
          let y = ap (value_or x) (sym k ∙ q ∙ ap (λ (t : Running). feeding_step a t m) p ∙ feeding-step-start m true h) in
          let l : length m ≤ limit = leb-true (length m) limit h in
          let t = accepts-fed a (start a) m 0 refl refl (omega arith) in
          ap (finishing_step a) y ∙ (rw t (ap (λ (z : List ℕ). Ok z) (digest-so-far a m)))
      go false h = absurd (false≢true (ap is_ok (sym (sym k ∙ q ∙ ap (λ (t : Running). feeding_step a t m) p ∙ feeding-step-start m false h))))
