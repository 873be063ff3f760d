-- List mode: the stream of a list whose tags ascend is no longer than the data set. Assumes nothing.
use Rattle.std.proofs.Common.{if◌then◌else◌}
use Prim.Native.Nat.{ℕ, ◌+◌, ◌≤◌}
use mathlib.Core.Path.{◌≡◌, refl, ◌∙◌}
use mathlib.Core.Bool.{Bool, true, false}
use mathlib.Core.List.{List, [], ◌∷◌, ◌++◌}
use mathlib.Core.Option.{Option, some}
use mathlib.Core.Option as Opt
use native.Mathlib.Omega.{arith}
use lib.Dec.{ltb}
use lib.ListN.{length, length-append}
use borrow.Author.Tests.{ltb-false}
use Rattle.answer.specs.Answer.{refused}
use Rattle.answer.proofs.Laws.OrElse.{BothAccepted, both-accepted}
use Rattle.dataset.specs.Tree.{Element, Elements}
use Rattle.dataset.proofs.Laws.Reading.Lies.{ElementsLie}
use Rattle.dataset.specs.Reading.{Reading, levels, data_set, tree_of}
use Rattle.dataset.specs.Lookup.{element_of}
use Rattle.dataset.proofs.Laws.Reading.Guarantees.{data-set-read}
use Rattle.dataset.proofs.Laws.Reading.Order.{elements-end}
use Rattle.stream.specs.TagList.{tags_in, ascending_answer, unbarred_answer, list_answer}
use Rattle.stream.specs.Stream.{stream_of, found_stream, listed_stream}
use Rattle.mac.specs.ListMode.{Call, stream_in, stream}
use Rattle.stream.proofs.Laws.Writer.StreamLength.{element-length}
use Rattle.mac_theorems.proofs.Laws.Length.FoundLies.{found_at}

pub record Ascends (index least tag : ℕ) (tags : List ℕ) : Type 0 where
  pub first : least ≤ tag
  pub rest : (ascending_answer (index + 1) (tag + 1) tags).number ≡ 0

pub ascends : (index least tag : ℕ) (tags : List ℕ) → (ascending_answer index least (tag ∷ tags)).number ≡ 0 → Ascends index least tag tags
unfolding ascending_answer
ascends index least tag tags = go (ltb tag least) refl
  where
    go : (b : Bool) → ltb tag least ≡ b → (if b then refused 11 index else ascending_answer (index + 1) (tag + 1) tags).number ≡ 0 → Ascends index least tag tags
    go true e h = absurd (omega arith)
    go false e h = record { first = ltb-false tag least e; rest = h }

-- the tags from `least` on stand in `rest`, which is what is left of the elements
module _ (d : List ℕ) (left next : ℕ) (es : Elements) where
  abbrev NoLonger : (least : ℕ) → List ℕ → Type 0
  NoLonger least tags =
      (rest : Elements) (floor at : ℕ) → ((t : ℕ) → least ≤ t → element_of t es ≡ element_of t rest) → ElementsLie rest d left floor at next
      → length (listed_stream tags es d) + at ≤ next

  one-no-longer : (least tag : ℕ) (tags : List ℕ) → least ≤ tag → NoLonger (tag + 1) tags → NoLonger least (tag ∷ tags)
  unfolding listed_stream
  one-no-longer least tag tags l more rest floor at f r = go (element_of tag rest) refl
    where
      go : (o : Option Element) → element_of tag rest ≡ o → length (found_stream (element_of tag es) d ++ listed_stream tags es d) + at ≤ next
      go Opt.none e = rw (f tag l ∙ e) (more rest floor at (λ t k. f t (omega arith)) r)
      go (some x) e =
          let g = found_at tag rest d left floor at next r x e in
          let h = element-length x d left g.from g.mid g.lies in
          let k = more g.rest (tag + 1) g.mid (λ t k. f t (omega arith) ∙ g.later t (omega arith)) g.follow in
          rw (f tag l ∙ e) (omega (arith, h.0, h.1, k, g.order, length-append (stream_of x d) (listed_stream tags es d)))

  pub listed-no-longer : (index least : ℕ) (tags : List ℕ) → (ascending_answer index least tags).number ≡ 0 → NoLonger least tags
  unfolding listed_stream
  listed-no-longer index least [] a rest floor at f r = let e = elements-end rest d left floor at next r in omega (arith, e.order)
  listed-no-longer index least (tag ∷ tags) a rest floor at f r =
      let p = ascends index least tag tags a in
      one-no-longer least tag tags p.first (λ rest floor at f r. listed-no-longer (index + 1) (tag + 1) tags p.rest rest floor at f r) rest floor at f r

-- ---- of a whole data set

-- the tags of a list that is not refused ascend, and none is barred
pub list-accepts : (list : List ℕ) → (list_answer list).number ≡ 0 → BothAccepted (ascending_answer 0 0 (tags_in list)) (unbarred_answer 0 (tags_in list))
unfolding list_answer
list-accepts list h = both-accepted _ _ (both-accepted _ _ h).second

-- a refused data set has no elements
module _ (d tags : List ℕ) (a : (ascending_answer 0 0 tags).number ≡ 0) where
  pub tree-no-longer : (r : Reading Elements) → data_set d ≡ r → length (listed_stream tags (tree_of r) d) ≤ length d
  unfolding ElementsLie
  tree-no-longer (Reading.fault f) e =
      let h = listed-no-longer d levels 0 Elements.none 0 0 tags a Elements.none 0 0 (λ t k. refl) record { order = omega arith; inside = omega arith; even = omega arith } in
      omega arith
  tree-no-longer (Reading.read es n) e =
      let p = data-set-read d es n e in
      let h = listed-no-longer d levels n es 0 0 tags a es 0 0 (λ t k. refl) p.tree in
      omega (arith, p.whole)

pub list-never-longer : (c : Call) → (list_answer c.list).number ≡ 0 → length (stream c) ≤ length c.set
unfolding stream_in
list-never-longer c h = tree-no-longer c.set (tags_in c.list) (list-accepts c.list h).first (data_set c.set) refl
