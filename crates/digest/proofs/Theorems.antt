-- The theorems that specs/Theorems states.
-- Assumes nothing.
use Rattle.digest.specs.Theorems.{Theorems}
use Rattle.digest.proofs.Laws.Sha256.Constants.{constants-rule, start-words-rule}
use Rattle.digest.proofs.Laws.Padding.Padded.{fewest-zeros}
use Rattle.digest.proofs.Laws.Running.Feeding.{two-feedings, digest-so-far}
use Rattle.digest.proofs.Laws.Running.CallsInTurn.{calls, calls-from}

pub theorems : Theorems
theorems =
    record {
      constants-rule = constants-rule;
      start-words-rule = start-words-rule;
      fewest-zeros = fewest-zeros;
      two-feedings = two-feedings;
      digest-so-far = digest-so-far;
      calls = calls;
      calls-from = calls-from;
    }
