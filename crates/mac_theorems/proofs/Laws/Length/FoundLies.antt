-- An element that is found under a tag lies in the data set, and the elements of later tags lie after it. Assumes nothing.
use Rattle.std.proofs.Common.{if◌then◌else◌}
use Prim.Native.Nat.{ℕ, ◌+◌, ◌≤◌, ◌<◌}
use mathlib.Core.Path.{◌≡◌, refl, ◌∙◌, subst}
use mathlib.Core.Bool.{Bool, true, false, true≢false}
use mathlib.Core.List.{List}
use mathlib.Core.Option.{some}
use native.Mathlib.Omega.{arith}
use lib.Dec.{eqb}
use borrow.Author.Tests.{eqb-true}
use Rattle.dataset.specs.Tree.{Element, Elements, tag_of}
use Rattle.dataset.proofs.Laws.Reading.Lies.{ElementLies, ElementsLie}
use Rattle.dataset.specs.Lookup.{element_of}
use Rattle.dataset.proofs.Laws.Reading.Order.{element-ends}
use Rattle.stream.proofs.Laws.Listed.Finding.{find_past}

-- the element e of the tag, from `from` to `mid`, and the elements after it
pub record FoundAt (tag : ℕ) (es : Elements) (d : List ℕ) (left floor at next : ℕ) (e : Element) : Type 0 where
  pub from : ℕ
  pub mid : ℕ
  pub rest : Elements
  pub above : floor ≤ tag
  pub order : at ≤ from
  pub lies : ElementLies e d left from mid
  pub follow : ElementsLie rest d left (tag + 1) mid next
  pub later : (t : ℕ) → tag < t → element_of t es ≡ element_of t rest

pub found_at : (tag : ℕ) (es : Elements) (d : List ℕ) (left floor at next : ℕ) → ElementsLie es d left floor at next → (e : Element) → element_of tag es ≡ some e
    → FoundAt tag es d left floor at next e
unfolding element_of ElementsLie
found_at tag Elements.none d left floor at next r e h = absurd (true≢false (cc))
found_at tag (Elements.and k es) d left floor at next r e h = go (eqb (tag_of k) tag) refl h (λ f. found_at tag es d left (tag_of k + 1) r.0 next r.3 e f)
  where
    go : (b : Bool) → eqb (tag_of k) tag ≡ b → (if b then some k else element_of tag es) ≡ some e
        → (element_of tag es ≡ some e → FoundAt tag es d left (tag_of k + 1) r.0 next e) → FoundAt tag (Elements.and k es) d left floor at next e
    go true b f more =
        let q : k ≡ e = cc in
        let t : tag_of k ≡ tag = eqb-true (tag_of k) tag b in
        record {
          from = at;
          mid = r.0;
          rest = es;
          above = omega (arith, r.1);
          order = omega arith;
          lies = subst (λ (z : Element). ElementLies z d left at r.0) q r.2;
          follow = subst (λ (n : ℕ). ElementsLie es d left (n + 1) r.0 next) t r.3;
          later = λ u l. find_past u k es (omega arith);
        }
    go false b f more =
        let m = more f in
        let n = element-ends k d left at r.0 r.2 in
        record {
          from = m.from;
          mid = m.mid;
          rest = m.rest;
          above = omega (arith, r.1, m.above);
          order = omega (arith, n.header, m.order);
          lies = m.lies;
          follow = m.follow;
          later = λ u l. find_past u k es (omega (arith, m.above)) ∙ m.later u l;
        }
