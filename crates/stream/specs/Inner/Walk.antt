-- For inner contracts; no part of what a reader has to believe: the walk over the listed elements and the signature item.
-- Assumes nothing.
use Rattle.std.specs.Prelude.{ℕ, ◌+◌, ◌≤◌, ◌≡◌, List, Option, Result, Ok, length}
use Rattle.std.specs.Result.{IfOk}
use Rattle.std.proofs.lemmas.List.Edits.{sets}
use Rattle.answer.specs.declared.Answer.{Answer}
use Rattle.answer.specs.Answer.{accepted, ◌or_else◌}
use Rattle.answer.specs.Step.{step_by}
use Rattle.dataset.specs.Tree.{Elements}
use Rattle.dataset.specs.Reading.{Reading, answer_of, tree_of}
use Rattle.dataset.specs.Extent.{elements_in}
use Rattle.dataset.specs.declared.extent.Extent.{Extent}
use Rattle.stream.specs.TagList.{tags_in}
use Rattle.stream.specs.Walk.{item_reading, signed_stream, stream_in, read_answer}
use Rattle.stream.specs.Inner.Own.{own_stream}

-- by the readings of the data set and of the signature item; or else the length of the stream
unfoldable pub walk_answer : (tags d : List ℕ) → (p item : Reading Elements) → Answer
walk_answer tags d p item = read_answer tags p item or_else accepted (length (signed_stream tags (tree_of p) (tree_of item) d))

-- what follows the listed elements, from `to` on: the own elements of the signature item in x
pub record FollowingWalk (d : List ℕ) (x : Extent) (to : ℕ) (r : Result ℕ Answer) (before after : List ℕ) : Type 0 where
  pub answers : r ≡ step_by (answer_of (elements_in d x) or_else accepted (to + length (own_stream (tree_of (elements_in d x)) d)))
  pub output : (n : ℕ) → r ≡ Ok n → after ≡ sets before to (own_stream (tree_of (elements_in d x)) d)
  pub short : IfOk r (λ n. n ≤ to + length d)

-- all of it
pub record StreamWalk (list d : List ℕ) (x : Extent) (item : Option Extent) (r : Result ℕ Answer) (before after : List ℕ) : Type 0 where
  pub answers : r ≡ step_by (walk_answer (tags_in list) d (elements_in d x) (item_reading d item))
  pub output : (n : ℕ) → r ≡ Ok n → after ≡ sets before 0 (stream_in list d x item)
  pub short : IfOk r (λ n. n ≤ length d + length d)
