-- `closed_by` meets its contract: a law for each return, with the facts there as premises. Assumes nothing.
use Rattle.std.proofs.Common.{Bool, List, eqb, false, not, true, ℕ, ◌&&◌, ◌+◌, ◌≡◌}
use borrow.Author.Tests.{not-true, not-false}
use Rattle.dataset.specs.Bytes.{tag_at, num32}
use Rattle.dataset.specs.Header.{closed_by}
use Rattle.dataset.proofs.header.closed_by.Goals as goal

closed-not : (d : List ℕ) (delimiter : ℕ) (delimited : Bool) (at : ℕ) → not delimited ≡ true → false ≡ closed_by d delimiter delimited at
unfolding closed_by
closed-not d delimiter delimited at e = rw (not-true delimited e)

closed-word : (d : List ℕ) (delimiter : ℕ) (delimited : Bool) (at tag word : ℕ) → not delimited ≡ false → tag ≡ tag_at d at → word ≡ num32 d (at + 4)
    → (eqb tag delimiter && eqb word 0) ≡ closed_by d delimiter delimited at
unfolding closed_by
closed-word d delimiter delimited at tag word e q w = rw (not-false delimited e, ← q, ← w)

pub returns-then-not-x : goal.returns-then-not-x
returns-then-not-x c = search closed-not

pub returns : goal.returns
returns c = search closed-word
