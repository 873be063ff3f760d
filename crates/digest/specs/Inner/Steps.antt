-- For inner contracts; no part of what a reader has to believe. The calls as steps that may fail: the error is the answer of the refusal.
-- Assumes nothing.
use Rattle.std.specs.Prelude.{ℕ, List, Result, Ok, Err, length, nat_le, if◌then◌else◌}
use Rattle.answer.specs.declared.Answer.{Answer}
use Rattle.answer.specs.Answer.{refused}
use Rattle.digest.specs.Message.{Algorithm, digest_of, limit}
use Rattle.digest.specs.Running.{accepts, fed, finished}
use Rattle.digest.specs.declared.running.Running.{Running}

-- `feeding` as a step
unfoldable pub feeding_step : Algorithm → Running → List ℕ → Result Running Answer
feeding_step a s m = if accepts s (length m) then Ok (fed a s m) else Err (refused 25 0)

-- `finishing` as a step
unfoldable pub finishing_step : Algorithm → Running → Result (List ℕ) Answer
finishing_step a s = if accepts s 0 then Ok (finished a s) else Err (refused 25 0)

-- `hashing` as a step
unfoldable pub hashing_step : Algorithm → List ℕ → Result (List ℕ) Answer
hashing_step a m = if nat_le (length m) limit then Ok (digest_of a m) else Err (refused 25 0)
