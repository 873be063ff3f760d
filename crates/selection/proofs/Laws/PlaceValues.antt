-- The values that stand in places, by what `value_of` says of them; and what is needed next. Assumes nothing.
use Rattle.std.proofs.Common.{if◌then◌else◌}
use Rattle.std.specs.Prelude.{Result, Ok, Err, None, Some}
use Rattle.std.specs.Prelude as code
use Rattle.std.specs.Borrow.{Bor}
use Rattle.std.specs.Option.{ok_or}
use Rattle.std.specs.Slice.{IsGetRangeResult}
use borrow.Author.Tests.{eq-eqb}
use Rattle.std.proofs.lemmas.Bool.{eqb-true}
use Prim.Native.Nat.{ℕ, ◌≤◌}
use mathlib.Core.Path.{◌≡◌, refl, sym, ap, ◌∙◌}
use mathlib.Core.Bool.{Bool, true, false}
use mathlib.Core.List.{List}
use mathlib.Core.Option.{Option, some}
use mathlib.Core.Option as Opt
use native.Mathlib.Omega.{arith}
use lib.Dec.{eqb}
use lib.ListN.{length}
use Rattle.answer.specs.declared.Answer.{Answer}
use Rattle.slices.specs.Lists.{between}
use Rattle.dataset.specs.Tree.{Element}
use Rattle.selection.specs.Selection.{value_of}
use Rattle.dataset.specs.Place.{Placed}
use Rattle.selection.specs.Inner.Selection.{bytes_of, ValueAt}
use Rattle.dataset.specs.declared.seek.Place.{Place}
use Rattle.dataset.specs.declared.seek.Place.TheVariants as place

-- cases that cannot be
pub never : {A : Type 0} → ◌≡◌ {A = ℕ} 0 1 → A
never e = absurd (omega arith)

-- ---- what is needed next, or a refusal
module _ {T : Type 0} (o : code.Option T) (a : Answer) (r : Result T Answer) (e : r ≡ ok_or o a) where
  pub needed : (x : T) → r ≡ Ok x → o ≡ Some x
  needed x q = go o (sym e ∙ q)
    where
      go : (o : code.Option T) → ok_or o a ≡ Ok x → o ≡ Some x
      go None h = never (cc)
      go (Some y) h = let k : y ≡ x = cc in ap Some k

  pub missing : (f : Answer) → r ≡ Err f → (o ≡ None) × (f ≡ a)
  missing f q = go o (sym e ∙ q)
    where
      go : (o : code.Option T) → ok_or o a ≡ Err f → (o ≡ None) × (f ≡ a)
      go None h = (refl, cc)
      go (Some y) h = never (cc)

-- ---- the value in a place

-- no value of this VR stands there
abbrev pub NoValueOf : (want : ℕ) → Place → Type 0
NoValueOf want p = (start end : ℕ) → p ≡ place.Value want start end → ⊥

module _ (want : ℕ) (d : List ℕ) (p : Place) where
  other_value : (here start end : ℕ) (t : Bool) → eqb here want ≡ t → NoValueOf want p → p ≡ place.Value here start end
      → (if t then some (between d start end) else Opt.none) ≡ Opt.none
  other_value here start end true e h q = let k : here ≡ want = eqb-true here want e in absurd (h start end (rw k at q))
  other_value here start end false e h q = refl

  pub no_value : (o : Option Element) → NoValueOf want p → Placed d o p → value_of want o d ≡ Opt.none
  unfolding value_of
  no_value Opt.none h q = refl
  no_value (some (Element.value at tag here span)) h q = other_value here span.start span.end (eqb here want) refl h q.0
  no_value (some (Element.sequence at tag span items)) h q = refl
  no_value (some (Element.fragments at tag span parts)) h q = refl

  pub no-value-at : ((vr start end : ℕ) → p ≡ place.Value vr start end → ⊥) → ValueAt want d p None
  no-value-at h = record { says = λ o q. sym (no_value o (h want) q) }

  -- the value of this VR that stands there
  pub record ValueIn (o : Option Element) (start end : ℕ) : Type 0 where
    pub order : start ≤ end
    pub inside : end ≤ length d
    pub same : value_of want o d ≡ some (between d start end)

  pub value-in : (start end : ℕ) → p ≡ place.Value want start end → (o : Option Element) → Placed d o p → ValueIn o start end
  unfolding value_of
  value-in start end is Opt.none q = never (cc)
  value-in start end is (some (Element.value at tag here span)) q =
      let a : here ≡ want = cc q.0 in
      let b : span.start ≡ start = cc q.0 in
      let e : span.end ≡ end = cc q.0 in
      record { order = omega (arith, q.1, b, e); inside = omega (arith, q.2, e); same = rw (eq-eqb here want a, b, e) }
  value-in start end is (some (Element.sequence at tag span items)) q = never (cc q.1)
  value-in start end is (some (Element.fragments at tag span parts)) q = never (cc)

  module _ (here start end : ℕ) (is : p ≡ place.Value here start end) where
    pub other-at : (here ≡ want → ⊥) → ValueAt want d p None
    other-at h = record { says = λ o q. sym (no_value o (λ s e k. h (cc)) q) }

    got : (r : code.Option (Bor (List ℕ))) → IsGetRangeResult d start end r → start ≤ end → end ≤ length d → bytes_of r ≡ some (between d start end)
    unfolding between
    got None g l k = let z = g.1 (l, k) in never (cc)
    got (Some x) g l k = ap some g.0.2

    pub value-at : here ≡ want → (r : code.Option (Bor (List ℕ))) → IsGetRangeResult d start end r → ValueAt want d p r
    value-at h r g =
        let k : p ≡ place.Value want start end = cc in
        record { says = λ o q. let v = value-in start end k o q in got r g v.order v.inside ∙ sym v.same }
