-- An accepted call in list mode: its data set is read, and none of the refusals up to 15 holds; in either mode, neither 9 nor 16 is given, and
-- the answer is the stream's length. Assumes nothing.
use Prim.Native.Nat.{ℕ, ◌≤◌}
use mathlib.Core.Path.{◌≡◌, refl, sym, ap, ◌∙◌}
use mathlib.Core.Bool.{true}
use mathlib.Core.List.{List}
use mathlib.Core.Option.{Option}
use native.Mathlib.Omega.{arith}
use lib.Dec.{eqb}
use lib.ListN.{length}
use borrow.Author.Tests.{eqb-true, ltb-false}
use Rattle.answer.specs.declared.Answer.{Answer}
use Rattle.answer.specs.Answer.{accepted, ◌or_else◌}
use Rattle.answer.proofs.Laws.OrElse.{or-else-second, BothAccepted, both-accepted}
use Rattle.dataset.specs.Tree.{Elements}
use Rattle.dataset.specs.Reading.{Reading, data_set, answer_of, tree_of, tree}
use Rattle.dataset.proofs.Laws.Reading.Loops.{size-within}
use Rattle.dataset.proofs.Theorems.{faults-inside}
use Rattle.dataset.proofs.Laws.Reading.Guarantees.{data-set-read}
use Rattle.stream.specs.TagList.{tags_in, list_answer}
use Rattle.stream.specs.Listed.{tags_answer}
use Rattle.mac.specs.Modes.{answer_from9}
use Rattle.mac.specs.Result.{is_accepted}
use Rattle.mac.specs.ListMode.{Call, stream, answer_to15, answer, result}
use Rattle.mac.proofs.Laws.AnswersFrom9.{from9-accepts, from9-accepted}

-- accepted, over the definitions
abbrev pub Accepted : Call → Type 0
Accepted c = is_accepted (result c) ≡ true

-- a data set that the reading does not refuse
pub record IsRead (d : List ℕ) : Type 0 where
  pub next : ℕ
  pub is : data_set d ≡ Reading.read (tree d) next

pub read_is : (d : List ℕ) (es : Elements) (next : ℕ) → data_set d ≡ Reading.read es next → IsRead d
read_is d es next e = record { next = next; is = e ∙ ap (λ (x : Elements). Reading.read x next) (sym (ap tree_of e)) }

pub is_read : (d : List ℕ) → (answer_of (data_set d)).number ≡ 0 → IsRead d
is_read d = go (data_set d) refl
  where
    go : (r : Reading Elements) → data_set d ≡ r → (answer_of r).number ≡ 0 → IsRead d
    go (Reading.fault f) e h = let l = (faults-inside d f e).least in absurd (omega arith)
    go (Reading.read es n) e h = read_is d es n e

-- none of the refusals
pub record Accepts (c : Call) : Type 0 where
  pub list : (list_answer c.list).number ≡ 0
  pub read : IsRead c.set
  pub found : (tags_answer 0 (tags_in c.list) (tree c.set)).number ≡ 0

pub accepts : (c : Call) → (answer c).number ≡ 0 → Accepts c
unfolding answer answer_to15
accepts c h =
    let size = both-accepted _ _ (both-accepted (answer_to15 c.list c.set) _ h).first in
    let list = both-accepted _ _ size.second in
    let reading = both-accepted _ _ list.second in
    record {
      list = list.first;
      read = is_read c.set reading.first;
      found = reading.second;
    }

-- the order up to 15, where the data set is read
pub to15-read : (list set : List ℕ) → IsRead set → answer_to15 list set ≡ (list_answer list or_else tags_answer 0 (tags_in list) (tree set))
unfolding answer_to15
to15-read list set r =
    let d = data-set-read set (tree set) r.next r.is in
    rw (size-within set d.small) (
    or-else-second (accepted 0) _ refl
    ∙ ap (λ (x : Answer). list_answer list or_else x) (or-else-second (answer_of (data_set set)) _ (ap (λ (p : Reading Elements). (answer_of p).number) r.is))
    )

-- ---- either mode: where an order that ends in 9 and 16 is accepted
module _ (first : Answer) (bytes : List ℕ) (room : ℕ) (expected : Option (List ℕ)) (h : eqb (first or_else answer_from9 bytes room expected).number 0 ≡ true) where
  both : BothAccepted first (answer_from9 bytes room expected)
  both = both-accepted first _ (eqb-true (first or_else answer_from9 bytes room expected).number 0 h)

  pub end-accepted : (first or_else answer_from9 bytes room expected) ≡ accepted (length bytes)
  end-accepted = or-else-second first _ both.first ∙ from9-accepted bytes room expected (from9-accepts bytes room expected both.second)

  pub end_fits : length bytes ≤ room
  end_fits = ltb-false room (length bytes) (from9-accepts bytes room expected both.second).fits

-- ---- an accepted call in list mode
module _ (c : Call) (h : Accepted c) where
  pub answer-accepted : answer c ≡ accepted (length (stream c))
  unfolding answer
  answer-accepted = end-accepted (answer_to15 c.list c.set) (stream c) c.room c.expected h

  pub answer-fits : length (stream c) ≤ c.room
  unfolding answer
  answer-fits = end_fits (answer_to15 c.list c.set) (stream c) c.room c.expected h
