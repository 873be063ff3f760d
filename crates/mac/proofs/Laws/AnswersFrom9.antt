-- The end of the order, which both modes share: what an accepted one leaves, and its answer. Assumes nothing.
use Prim.Native.Nat.{ℕ}
use mathlib.Core.Path.{◌≡◌, ◌∙◌}
use mathlib.Core.Bool.{false}
use mathlib.Core.List.{List}
use mathlib.Core.Option.{Option}
use native.Mathlib.Omega.{arith}
use lib.Dec.{ltb}
use lib.ListN.{length}
use Rattle.answer.specs.Answer.{accepted}
use Rattle.answer.proofs.Laws.OrElse.{or-else-second, both-accepted, passed}
use Rattle.stream.specs.Walk.{answer_from16}
use Rattle.stream.proofs.Laws.Walk.WriteMeasured.{from16-accepts, from16-accepted}
use Rattle.mac.specs.Modes.{bad_digest_length, answer_from9}

-- neither 9 nor 16
pub record From9Accepts (stream : List ℕ) (room : ℕ) (expected : Option (List ℕ)) : Type 0 where
  pub digest : bad_digest_length expected ≡ false
  pub fits : ltb room (length stream) ≡ false

module _ (stream : List ℕ) (room : ℕ) (expected : Option (List ℕ)) where
  pub from9-accepts : (answer_from9 stream room expected).number ≡ 0 → From9Accepts stream room expected
  unfolding answer_from9
  from9-accepts h =
      let k = both-accepted _ (answer_from16 stream room) h in
      record { digest = passed (bad_digest_length expected) 9 0 (λ z. omega arith) k.first; fits = from16-accepts stream room k.second }

  pub from9-accepted : From9Accepts stream room expected → answer_from9 stream room expected ≡ accepted (length stream)
  unfolding answer_from9
  from9-accepted a = or-else-second _ _ (rw a.digest) ∙ from16-accepted stream room a.fits
