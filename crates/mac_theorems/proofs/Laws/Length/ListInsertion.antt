-- A list with one tag more, in its place: where that tag is barred the tags still ascend; the stream is longer by that tag's element.
-- Assumes nothing.
use Rattle.std.proofs.Common.{if◌then◌else◌}
use Prim.Native.Nat.{ℕ, ◌+◌, ◌≤◌}
use mathlib.Core.Path.{◌≡◌, refl, sym, ap, ◌∙◌}
use mathlib.Core.Bool.{Bool, true, false, true≢false}
use mathlib.Core.List.{List, [], ◌∷◌}
use native.Mathlib.Omega.{arith}
use lib.Dec.{ltb}
use lib.ListN.{length, length-append}
use borrow.Author.Tests.{ltb-true, ltb-false, le-ltb}
use Rattle.answer.specs.Answer.{refused}
use Rattle.dataset.specs.Tree.{Elements}
use Rattle.dataset.specs.Lookup.{element_of}
use Rattle.stream.specs.TagList.{barred, ascending_answer, unbarred_answer}
use Rattle.stream.specs.Stream.{found_stream, listed_stream}
use Rattle.mac_theorems.proofs.Laws.Length.ListStreamLength.{Ascends, ascends}

pub insert : (tag : ℕ) → List ℕ → List ℕ
insert tag [] = tag ∷ []
insert tag (u ∷ us) = if ltb u tag then u ∷ insert tag us else tag ∷ u ∷ us

ascends-on : (index least tag : ℕ) (tags : List ℕ) → least ≤ tag → (ascending_answer (index + 1) (tag + 1) tags).number ≡ 0
    → (ascending_answer index least (tag ∷ tags)).number ≡ 0
unfolding ascending_answer
ascends-on index least tag tags l h = rw (le-ltb tag least l) h

-- the index is only that of a refusal
ascends-from : (index index' least : ℕ) (tags : List ℕ) → (ascending_answer index least tags).number ≡ 0 → (ascending_answer index' least tags).number ≡ 0
unfolding ascending_answer
ascends-from index index' least [] h = refl
ascends-from index index' least (tag ∷ tags) h =
    let p = ascends index least tag tags h in
    ascends-on index' least tag tags p.first (ascends-from (index + 1) (index' + 1) (tag + 1) tags p.rest)

record Unbarred (index tag : ℕ) (tags : List ℕ) : Type 0 where
  first : barred tag ≡ false
  rest : (unbarred_answer (index + 1) tags).number ≡ 0

unbars : (index tag : ℕ) (tags : List ℕ) → (unbarred_answer index (tag ∷ tags)).number ≡ 0 → Unbarred index tag tags
unfolding unbarred_answer
unbars index tag tags = go (barred tag) refl
  where
    go : (b : Bool) → barred tag ≡ b → (if b then refused 12 index else unbarred_answer (index + 1) tags).number ≡ 0 → Unbarred index tag tags
    go true e h = absurd (omega arith)
    go false e h = record { first = e; rest = h }

-- a barred tag is none of those of a list that is not refused
pub insert-ascends : (tag : ℕ) → barred tag ≡ true → (index least : ℕ) (us : List ℕ) → least ≤ tag → (ascending_answer index least us).number ≡ 0
    → (unbarred_answer index us).number ≡ 0 → (ascending_answer index least (insert tag us)).number ≡ 0
unfolding ascending_answer insert
insert-ascends tag b index least [] l h k = ascends-on index least tag [] l refl
insert-ascends tag b index least (u ∷ us) l h k =
    let p = ascends index least u us h in
    let q = unbars index u us k in
    go (ltb u tag) refl p q.first (λ m. insert-ascends tag b (index + 1) (u + 1) us m p.rest q.rest)
  where
    go : (t : Bool) → ltb u tag ≡ t → Ascends index least u us → barred u ≡ false
        → (u + 1 ≤ tag → (ascending_answer (index + 1) (u + 1) (insert tag us)).number ≡ 0)
        → (ascending_answer index least (if t then u ∷ insert tag us else tag ∷ u ∷ us)).number ≡ 0
    go true e p q more = ascends-on index least u (insert tag us) p.first (more (omega (arith, ltb-true u tag e)))
    go false e p q more =
        let other : tag ≡ u → ⊥ = λ same. true≢false (sym b ∙ ap barred same ∙ q) in
        let above : tag + 1 ≤ u = omega (arith, ltb-false u tag e) in
        ascends-on index least tag (u ∷ us) l (ascends-on (index + 1) (tag + 1) u us above (ascends-from (index + 1) (index + 1 + 1) (u + 1) us p.rest))

module _ (es : Elements) (d : List ℕ) where
  one-length : (tag : ℕ) (tags : List ℕ) → length (listed_stream (tag ∷ tags) es d) ≡ length (found_stream (element_of tag es) d) + length (listed_stream tags es d)
  unfolding listed_stream
  one-length tag tags = length-append (found_stream (element_of tag es) d) (listed_stream tags es d)

  pub insert-length : (tag : ℕ) (us : List ℕ) → length (listed_stream (insert tag us) es d) ≡ length (found_stream (element_of tag es) d) + length (listed_stream us es d)
  unfolding insert
  insert-length tag [] = one-length tag []
  insert-length tag (u ∷ us) = go (ltb u tag) (insert-length tag us)
    where
      go : (t : Bool) → length (listed_stream (insert tag us) es d) ≡ length (found_stream (element_of tag es) d) + length (listed_stream us es d)
          → length (listed_stream (if t then u ∷ insert tag us else tag ∷ u ∷ us) es d) ≡ length (found_stream (element_of tag es) d) + length (listed_stream (u ∷ us) es d)
      go true h = omega (arith, one-length u (insert tag us), one-length u us)
      go false h = one-length tag (u ∷ us)
