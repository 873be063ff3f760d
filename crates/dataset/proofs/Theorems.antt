-- The theorems that specs/Theorems.antt states. Assumes nothing.
use Prim.Native.Nat.{ℕ, suc, ◌-◌, ◌≤◌}
use mathlib.Core.Path.{◌≡◌, refl, sym, ap, ◌∙◌}
use mathlib.Core.Bool.{Bool, true, false, true≢false, false≢true}
use mathlib.Core.List.{List}
use mathlib.Core.Option.{Option, some}
use mathlib.Core.Option as Opt
use native.Mathlib.Omega.{arith}
use lib.ListN.{length}
use lib.Dec.{ltb}
use borrow.Author.Tests.{ltb-true, ltb-false}
use Rattle.answer.specs.declared.Answer.{Answer}
use Rattle.answer.specs.Answer as answer
use Rattle.dataset.specs.Tree.{Element, Elements}
use Rattle.dataset.specs.Lookup.{element_of, found_of, found_in, found}
use Rattle.dataset.proofs.Laws.Lookup.FindLoop.{found_inside}
use Rattle.dataset.specs.Reading.{Reading, fault, read, One, ended, element, explicit, elements_at, items_at, fragments_at, one_at, size_limit, levels, data_set, answer_of, WellFormed}
use Rattle.dataset.specs.Theorems.{EvenLength, Refusal, FaultsInExtents, ValueInside, Theorems}
use Rattle.dataset.proofs.Laws.Reading.Bounded.{explicit-bounded}
use Rattle.dataset.proofs.Laws.Reading.Within.{Within, FaultIn, OneIn, fragments-within, elements-within, items-within, one_in}
use Rattle.dataset.proofs.Laws.Reading.Unfolding.{elements-enough, items-enough, fragments-enough, elements-are, items-are, fragments-are}
use Rattle.dataset.proofs.Laws.Reading.Loops.{data-set-is, data-set-over}
use Rattle.dataset.proofs.Laws.Reading.Guarantees.{data-set-read}
use Rattle.dataset.proofs.Laws.Reading.Filled.{filled-is-read}
use Rattle.dataset.proofs.Laws.Reading.FirstFault.{first-fault}
use Rattle.dataset.proofs.Laws.Reading.Order.{elements-end}
use Rattle.dataset.proofs.Laws.Reading.Levels.{levels-count}

within-fault : {A : Type 0} (lo hi : ℕ) (p : Reading A) (f : Answer) → Within lo hi p → p ≡ fault f → FaultIn lo hi f
within-fault lo hi (fault g) f w e = let q : g ≡ f = cc in rw (← q) w
within-fault lo hi (read a n) f w e = absurd (true≢false (cc))

-- a fault of the reading, as later proofs use it
pub record FaultIs (d : List ℕ) (f : Answer) : Type 0 where
  pub least : 1 ≤ f.number
  pub most : f.number ≤ 8
  pub inside : f.position ≤ length d
  pub nothing : f.length ≡ 0

pub faults-inside : (d : List ℕ) (f : Answer) → data_set d ≡ fault f → FaultIs d f
unfolding elements_at
faults-inside d f e = go (ltb size_limit (length d)) refl
  where
    go : (b : Bool) → ltb size_limit (length d) ≡ b → FaultIs d f
    go true b =
        let q : ◌≡◌ {A = Reading Elements} (fault (answer.refused 1 0)) (fault f) = sym (data-set-over d (ltb-true size_limit (length d) b)) ∙ e in
        let z : answer.refused 1 0 ≡ f = cc in
        rw (← z) record { least = omega arith; most = omega arith; inside = omega arith; nothing = refl }
    go false b =
        let w = within-fault 0 (length d) (elements_at explicit d false levels (length d) 0 0) f
        (elements-within explicit explicit-bounded (suc (length d - 0)) d false levels (length d) 0 0 (omega arith) (omega arith))
        (sym (data-set-is d (ltb-false size_limit (length d) b)) ∙ e) in
        record { least = omega (arith, w.least); most = w.most; inside = w.inside; nothing = w.nothing }

one-fault : (lo hi : ℕ) (p : Reading One) (f : Answer) → OneIn lo hi p → p ≡ fault f → FaultIn lo hi f
one-fault lo hi (fault g) f w e = let q : g ≡ f = cc in rw (← q) w
one-fault lo hi (read ended n) f w e = absurd (true≢false (cc))
one-fault lo hi (read (element x) n) f w e = absurd (true≢false (cc))

refusal-in : (lo hi : ℕ) (f : Answer) → FaultIn lo hi f → Refusal 2 lo hi f
refusal-in lo hi f w = record { from_lowest = w.least; up_to8 = w.most; after = w.order; inside = w.inside; no_length = w.nothing }

faults-in-extents : FaultsInExtents
unfolding elements_at items_at fragments_at
faults-in-extents d delimited left stop at h l = record {
  one = λ least f e. refusal-in at stop f
      (one-fault at stop (one_at explicit d delimited left stop at least) f (one_in explicit explicit-bounded d delimited left stop at least h) e);
  elements = λ least f e. refusal-in at stop f
      (within-fault at stop (elements_at explicit d delimited left stop at least) f (elements-within explicit explicit-bounded (suc (stop - at)) d delimited left stop at least h (omega arith)) e);
  items = λ f e. refusal-in at stop f
      (within-fault at stop (items_at explicit d delimited left stop at) f (items-within explicit explicit-bounded (suc (stop - at)) d delimited left stop at h (omega arith)) e);
  fragments = λ f e. refusal-in at stop f
      (within-fault at stop (fragments_at explicit d left stop at) f (fragments-within explicit explicit-bounded (suc (stop - at)) d left stop at h (omega arith)) e);
}

-- well-formed is what is answered with number 0
pub well-formed-accepted : (d : List ℕ) → WellFormed d → answer_of (data_set d) ≡ answer.accepted 0
well-formed-accepted d w = ap answer_of w.2

pub accepted-well-formed : (d : List ℕ) → answer_of (data_set d) ≡ answer.accepted 0 → WellFormed d
accepted-well-formed d w = go (data_set d) refl
  where
    go : (p : Reading Elements) → data_set d ≡ p → WellFormed d
    go (fault f) e =
        let r = faults-inside d f e in
        let z : f ≡ answer.accepted 0 = sym (ap answer_of e) ∙ w in
        let n : f.number ≡ 0 = ap (λ (a : Answer). a.number) z in
        absurd (omega (arith, r.least, n))
    go (read es n) e = (es, n, e)

even-length : EvenLength
even-length d w =
    let r = data-set-read d w.0 w.1 w.2 in
    let k = elements-end w.0 d levels 0 0 w.1 r.tree in
    omega (arith, k.even, r.whole)

value-inside : ValueInside
unfolding found found_in found_of
value-inside d tag = record { inside = found_inside d tag (found d tag) refl; answered = says (data_set d); stands = go (data_set d) refl; otherwise = other (data_set d) }
  where
    accepts : (o : Option Element) → (found_of (length d) o).answer ≡ answer.accepted 0
    accepts Opt.none = refl
    accepts (some x) = refl

    says : (p : Reading Elements) → (found_in (length d) tag p).answer ≡ answer_of p
    says (fault f) = refl
    says (read es n) = accepts (element_of tag es)

    go : (p : Reading Elements) → data_set d ≡ p → (found_in (length d) tag p).present ≡ true → WellFormed d
    go (fault f) q e = absurd (false≢true e)
    go (read es n) q e = (es, n, q)

    missing : (o : Option Element) → (found_of (length d) o).present ≡ false → ((found_of (length d) o).start ≡ length d) × ((found_of (length d) o).length ≡ 0)
    missing Opt.none e = (refl, refl)
    missing (some x) e = absurd (true≢false e)

    other : (p : Reading Elements) → (found_in (length d) tag p).present ≡ false → ((found_in (length d) tag p).start ≡ length d) × ((found_in (length d) tag p).length ≡ 0)
    other (fault f) e = (refl, refl)
    other (read es n) e = missing (element_of tag es) e

pub theorems : Theorems
theorems = record {
  even-length = even-length;
  faults-inside = λ d f e. let r = faults-inside d f e in record { from_lowest = r.least; up_to8 = r.most; after = omega arith; inside = r.inside; no_length = r.nothing };
  faults-in-extents = faults-in-extents;
  in_order = λ d es next e. (data-set-read d es next e).fills;
  filled-is-read = filled-is-read;
  first-fault = first-fault;
  fuel-suffices = λ n d delimited left stop at h l. record {
    elements = λ least. elements-enough explicit explicit-bounded n d delimited left stop at least h l;
    items = items-enough explicit explicit-bounded n d delimited left stop at h l;
    fragments = fragments-enough explicit explicit-bounded n d left stop at h l;
  };
  unfolds = λ d delimited left stop at h. record {
    elements = λ least. elements-are explicit explicit-bounded d delimited left stop at least h;
    items = items-are explicit explicit-bounded d delimited left stop at h;
    fragments = fragments-are explicit explicit-bounded d left stop at h;
  };
  levels-count = levels-count;
  value-inside = value-inside;
}
