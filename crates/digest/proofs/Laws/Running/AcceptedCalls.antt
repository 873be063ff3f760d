-- What the calls answer, by the test that the code makes.
-- Assumes nothing.
use Rattle.std.proofs.Common.{◌≡◌, ℕ, Bool, true, false, Result, Ok, Err, if◌then◌else◌, leb, List, length, replicate, refl}
use Rattle.answer.specs.Answer.{accepted, refused}
use Rattle.digest.specs.Message.{Algorithm, digest_of, limit, hashing, hashed_by}
use Rattle.digest.specs.Running.{accepts, fed, finished, feeding, finishing}
use Rattle.digest.specs.Inner.Steps.{feeding_step, finishing_step, hashing_step}
use Rattle.digest.specs.declared.running.Running.{Running}
use Rattle.digest.specs.declared.running.Fed.{Fed}
use Rattle.digest.specs.declared.running.Finished.{Finished}
use Rattle.digest.specs.declared.message.Hashed.{Hashed}
use Rattle.answer.specs.declared.Answer.{Answer}

module _ (a : Algorithm) (s : Running) where
  pub feeding-accepted : (m : List ℕ) → accepts s (length m) ≡ true → feeding a s m ≡ record { answer = accepted 0; running = fed a s m }
  unfolding feeding
  feeding-accepted m e = rw e refl

  pub feeding-refused : (m : List ℕ) → accepts s (length m) ≡ false → feeding a s m ≡ record { answer = refused 25 0; running = s }
  unfolding feeding
  feeding-refused m e = rw e refl

  pub finishing-accepted : accepts s 0 ≡ true → finishing a s ≡ record { answer = accepted 0; digest = finished a s; running = s }
  unfolding finishing
  finishing-accepted e = rw e refl

module _ (a : Algorithm) where
  pub hashing-accepted : (m : List ℕ) → leb (length m) limit ≡ true → hashing a m ≡ record { answer = accepted 0; digest = digest_of a m }
  unfolding hashing
  hashing-accepted m e = rw e refl

  pub hashing-refused : (m : List ℕ) → leb (length m) limit ≡ false
      → hashing a m ≡ record { answer = refused 25 0; digest = replicate a.size 0 }
  unfolding hashing
  hashing-refused m e = rw e refl

-- ---- what the calls return, from the step inside
abbrev pub fed_by : Running → Result Running Answer → Fed
fed_by s (Ok next) = record { answer = accepted 0; running = next }
fed_by s (Err a) = record { answer = a; running = s }

abbrev pub finished_by : Running → Hashed → Finished
finished_by s h = record { answer = h.answer; digest = h.digest; running = s }

-- a function of a choice is the choice of its values
of-choice : {A B : Type 0} (f : A → B) (b : Bool) (x y : A) → f (if b then x else y) ≡ (if b then f x else f y)
of-choice f true x y = refl
of-choice f false x y = refl

module _ (a : Algorithm) where
  pub feeding-by : (s : Running) (m : List ℕ) → fed_by s (feeding_step a s m) ≡ feeding a s m
  unfolding feeding feeding_step
  feeding-by s m = of-choice (fed_by s) (accepts s (length m)) (Ok (fed a s m)) (Err (refused 25 0))

  pub finishing-by : (s : Running) → finished_by s (hashed_by a (finishing_step a s)) ≡ finishing a s
  unfolding finishing finishing_step
  finishing-by s = of-choice (λ r. finished_by s (hashed_by a r)) (accepts s 0) (Ok (finished a s)) (Err (refused 25 0))

  pub hashing-by : (m : List ℕ) → hashed_by a (hashing_step a m) ≡ hashing a m
  unfolding hashing hashing_step
  hashing-by m = of-choice (hashed_by a) (leb (length m) limit) (Ok (digest_of a m)) (Err (refused 25 0))
