-- Where a tag is found among elements whose tags ascend. Assumes nothing.
use Prim.Native.Nat.{ℕ, ◌+◌, ◌<◌}
use mathlib.Core.Path.{◌≡◌, refl}
use mathlib.Core.List.{List}
use mathlib.Core.Option.{some}
use mathlib.Core.Option as Opt
use native.Mathlib.Omega.{arith}
use borrow.Author.Tests.{eq-eqb, ne_eqb}
use Rattle.dataset.specs.Tree.{Element, Elements, none, and, tag_of}
use Rattle.dataset.proofs.Laws.Reading.Lies.{ElementsLie}
use Rattle.dataset.specs.Lookup.{element_of}

pub find_past : (wanted : ℕ) (e : Element) (es : Elements) → tag_of e < wanted → element_of wanted (and e es) ≡ element_of wanted es
unfolding element_of
find_past wanted e es h = rw (ne_eqb (tag_of e) wanted (λ q. omega arith))

pub find-here : (wanted : ℕ) (e : Element) (es : Elements) → tag_of e ≡ wanted → element_of wanted (and e es) ≡ some e
unfolding element_of
find-here wanted e es h = rw (eq-eqb (tag_of e) wanted h)

-- a tag below those of the elements is absent
pub find_absent : (wanted : ℕ) (es : Elements) (d : List ℕ) (left floor at next : ℕ) → ElementsLie es d left floor at next → wanted < floor → element_of wanted es ≡ Opt.none
unfolding element_of ElementsLie
find_absent wanted none d left floor at next r h = refl
find_absent wanted (and e es) d left floor at next r h =
    rw (ne_eqb (tag_of e) wanted (λ q. omega (arith, r.1))) (find_absent wanted es d left (tag_of e + 1) r.0 next r.3 (omega (arith, r.1)))

pub front-absent : (wanted : ℕ) (e : Element) (es : Elements) → wanted < tag_of e → element_of wanted es ≡ Opt.none → element_of wanted (and e es) ≡ Opt.none
unfolding element_of
front-absent wanted e es h q = rw (ne_eqb (tag_of e) wanted (λ z. omega arith)) q
