-- Signature mode: what every answer is; and an accepted call's answer is the stream's length. Assumes nothing.
use Prim.Native.Nat.{◌≤◌}
use mathlib.Core.Path.{◌≡◌, refl}
use mathlib.Core.Bool.{true}
use native.Mathlib.Omega.{arith}
use lib.ListN.{length}
use Rattle.answer.specs.Answer.{accepted}
use Rattle.answer.proofs.Laws.OrElse.{both-accepted}
use Rattle.dataset.specs.Reading.{size_answer, data_set, answer_of, tree}
use Rattle.stream.specs.TagList.{list_answer}
use Rattle.mac.specs.Result.{is_accepted}
use Rattle.mac.specs.SignatureMode.{selection_answer, Call, selection, stream, answer_to15, answer, result}
use Rattle.mac_theorems.proofs.Laws.Answers.Acceptance.{end-accepted, end_fits}
use Rattle.mac_theorems.proofs.Laws.Answers.EveryAnswer.{Regular, plain-regular, or-else-regular, set-regular, list-regular, reading-regular, tags-regular, from9-regular}
use Rattle.mac_theorems.proofs.Laws.Signature.SelectedItem.{select-holds}
use Rattle.mac_theorems.specs.Calls.{EitherCall, in_signature_mode, selected_list}

-- ---- every answer
module _ (c : Call) where
  abbrev k : EitherCall
  k = in_signature_mode c

  -- 18 to 23, and 10 to 15
  selection-regular : Regular k (selection_answer (selection c))
  unfolding selection_answer
  selection-regular =
      select-holds (λ s. selection c ≡ s → Regular k (selection_answer s))
      (λ number l u e. plain-regular k number (λ p q. omega arith)
      record { most = u; never17 = λ z. omega arith; of9 = λ z. absurd (omega arith); of16 = λ z. absurd (omega arith) })
      c.uid c.which (tree c.set) c.set
      (λ item i list algorithm e.
      rw e at (or-else-regular k _ _ (list-regular k) λ h. tags-regular k (tree c.set)))
      refl

  -- where none of them is given the list is not refused
  selection-lists : (selection_answer (selection c)).number ≡ 0 → (list_answer (selected_list (selection c))).number ≡ 0
  unfolding selection_answer
  selection-lists =
      select-holds (λ s. (selection_answer s).number ≡ 0 → (list_answer (selected_list s)).number ≡ 0) (λ number l u z. absurd (omega arith))
      c.uid c.which (tree c.set) c.set (λ item i list algorithm z. (both-accepted (list_answer list) _ z).first)

  pub answer-regular : Regular k (answer c)
  unfolding answer answer_to15
  answer-regular =
      or-else-regular k (answer_to15 c.uid c.which c.set) _
      (or-else-regular k _ _ (set-regular k) λ z. or-else-regular k _ _ (reading-regular k) λ y. selection-regular)
      λ z. from9-regular k (selection-lists (both-accepted (answer_of (data_set c.set)) _ (both-accepted (size_answer c.set) _ z).second).second)

-- ---- an accepted call
module _ (c : Call) (h : is_accepted (result c) ≡ true) where
  pub answer-accepted : answer c ≡ accepted (length (stream c))
  unfolding answer
  answer-accepted = end-accepted (answer_to15 c.uid c.which c.set) (stream c) c.room c.expected h

  pub answer-fits : length (stream c) ≤ c.room
  unfolding answer
  answer-fits = end_fits (answer_to15 c.uid c.which c.set) (stream c) c.room c.expected h
