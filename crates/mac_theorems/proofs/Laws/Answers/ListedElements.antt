-- The listed elements: what the tag by tag answer 13, 14, 15 leaves, and that they have a signed content. Assumes nothing.
use Rattle.std.proofs.Common.{if◌then◌else◌}
use Prim.Native.Nat.{ℕ, ◌+◌}
use mathlib.Core.Path.{◌≡◌, refl, ap₂}
use mathlib.Core.Bool.{Bool, true, false}
use mathlib.Core.List.{List, [], ◌∷◌}
use mathlib.Core.Option.{Option, some}
use mathlib.Core.Option as Opt
use native.Mathlib.Omega.{arith}
use Rattle.answer.specs.Answer.{accepted, refused}
use Rattle.answer.proofs.Laws.OrElse.{both-accepted}
use Rattle.dataset.specs.Tree.{Element, Elements}
use Rattle.dataset.specs.Lookup.{element_of}
use Rattle.stream.specs.Content.{SignedElements, signed, joined, content}
use Rattle.stream.specs.UN.{is_un, holds_un}
use Rattle.stream.specs.Listed.{element_answer, tags_answer}

-- ---- none of 13, 14 and 15
pub record Unrefused (o : Option Element) : Type 0 where
  pub element : Element
  pub is : o ≡ some element
  pub known : is_un element ≡ false
  pub clean : holds_un element ≡ false

element-unrefused : (i : ℕ) (o : Option Element) → (element_answer i o).number ≡ 0 → Unrefused o
unfolding element_answer
element-unrefused i Opt.none h = absurd (omega arith)
element-unrefused i (some e) h = go (is_un e) refl (holds_un e) refl h
  where
    go : (a : Bool) → is_un e ≡ a → (b : Bool) → holds_un e ≡ b → (if a then refused 14 i else if b then refused 15 i else accepted 0).number ≡ 0 → Unrefused (some e)
    go true p b q z = absurd (omega arith)
    go false p true q z = absurd (omega arith)
    go false p false q z = record { element = e; is = refl; known = p; clean = q }

-- the first listed tag, and the others
pub record TagsUnrefused (i tag : ℕ) (tags : List ℕ) (es : Elements) : Type 0 where
  pub first : Unrefused (element_of tag es)
  pub rest : (tags_answer (i + 1) tags es).number ≡ 0

pub tags-unrefused : (i tag : ℕ) (tags : List ℕ) (es : Elements) → (tags_answer i (tag ∷ tags) es).number ≡ 0 → TagsUnrefused i tag tags es
unfolding tags_answer
tags-unrefused i tag tags es h =
    let p = both-accepted (element_answer i (element_of tag es)) (tags_answer (i + 1) tags es) h in
    record { first = element-unrefused i (element_of tag es) p.first; rest = p.second }

-- ---- the signed content
pub record HasContent (tags : List ℕ) (es : Elements) (d : List ℕ) : Type 0 where
  pub row : SignedElements
  pub is : content tags es d ≡ some row

pub has-content : (tags : List ℕ) (i : ℕ) (es : Elements) (d : List ℕ) → (tags_answer i tags es).number ≡ 0 → HasContent tags es d
unfolding content
has-content [] i es d h = record { row = SignedElements.none; is = refl }
has-content (tag ∷ tags) i es d h =
    let g = tags-unrefused i tag tags es h in
    let f = g.first in
    let r = has-content tags (i + 1) es d g.rest in
    record {
      row = SignedElements.and (signed f.element d) r.row;
      is = ap₂ (λ (x : Option Element) (y : Option SignedElements). joined x y d) f.is r.is;
    }
