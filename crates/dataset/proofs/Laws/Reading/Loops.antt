-- What each turn of the readers' loops does, with the facts of the place as premises: `search` applies these laws where the code has the
-- facts. Assumes nothing.
use Rattle.std.specs.Prelude.{Result, Ok, Err}
use Prim.Native.Nat.{ℕ, ◌+◌, ◌-◌, ◌*◌, ◌≤◌, ◌<◌}
use mathlib.Core.Path.{◌≡◌, refl, sym, ap, ◌∙◌}
use mathlib.Core.Bool.{Bool, true, false}
use mathlib.Core.List.{List}
use native.Mathlib.Omega.{arith}
use lib.Dec.{ltb}
use lib.ListN.{length}
use borrow.Author.Tests.{ltb-true, ltb-false, lt-ltb, le-ltb, ne_eqb}
use Rattle.answer.specs.declared.Answer.{Answer}
use Rattle.answer.specs.Answer as answer
use Rattle.answer.specs.Step.{test_by}
use Rattle.answer.proofs.Laws.Steps.{test-accepted, test-is, test-refused}
use Rattle.dataset.specs.Header.{item_case, item_at}
use Rattle.dataset.specs.Reading.{Reading, fault, read, ended, element, explicit, by_one, by_fragment, fragments_at, elements_at, one_at, size_limit, size_answer, unless_refused, levels, data_set, answer_of, handed_on, one_case}
use Rattle.dataset.specs.Extent.{whole_of, elements_in, items_in, opened_item, opened_case}
use Rattle.dataset.specs.Place.{Lies}
use Rattle.dataset.specs.Inner.Outcomes.{outcome_of, one_outcome_of}
use Rattle.dataset.specs.declared.header.ItemHeader.{ItemHeader}
use Rattle.dataset.specs.declared.header.ItemHeader.TheVariants as header
use Rattle.dataset.specs.declared.extent.Extent.{Extent}
use Rattle.dataset.specs.declared.extent.OpenedItem.{OpenedItem}
use Rattle.dataset.specs.declared.extent.OpenedItem.TheVariants as place
use Rattle.dataset.specs.declared.reading.OneOutcome.{OneOutcome}
use Rattle.dataset.specs.declared.reading.OneOutcome.TheVariants as one
use Rattle.dataset.proofs.Laws.Header.HeaderFacts.{ItemFacts, item-facts}
use Rattle.dataset.proofs.Laws.Reading.Bounded.{explicit-bounded}
use Rattle.dataset.proofs.Laws.Reading.Within.{OneIn, one_in}
use Rattle.dataset.proofs.Laws.Reading.Levels.{deeper-falls}
use Rattle.dataset.proofs.Laws.Extent.ItemsFrom as from
use Rattle.dataset.proofs.Laws.Extent.ItemsFrom.{items_from}
use Rattle.dataset.proofs.Laws.Reading.Unfolding.{elements-by, fragments-by}
use Rattle.dataset.proofs.Laws.Reading.Outcomes.{last, then_next, is-fault, is_read, handed-back, is-one-fault, is-one-end, IsElement, is-element}

-- ---- the loops' invariants: `at` lies in the extent, and what is read from `from` on is answered as what is read from `at` on
pub record FragmentsLoop (d : List ℕ) (left stop from at : ℕ) : Type 0 where
  pub inside : at ≤ stop
  pub same : outcome_of (fragments_at explicit d left stop from) ≡ outcome_of (fragments_at explicit d left stop at)

pub record ElementsLoop (d : List ℕ) (delimited : Bool) (left stop from at least : ℕ) : Type 0 where
  pub inside : at ≤ stop
  pub same : outcome_of (elements_at explicit d delimited left stop from 0) ≡ outcome_of (elements_at explicit d delimited left stop at least)

pub record ItemsLoop (d : List ℕ) (x : Extent) (at : ℕ) : Type 0 where
  pub inside : at ≤ x.stop
  pub same : outcome_of (items_in d x) ≡ outcome_of (items_from d x at)

-- ---- fragments: r is what stands at `at`, and R what the reader answers
module _ (d : List ℕ) (stop at : ℕ) (r : Result ItemHeader Answer) (e : item_case r ≡ item_at d false true stop at) where
  pub fragment-at : (p : Result ItemHeader Answer) → r ≡ p → ItemFacts d false true stop at (item_case p)
  fragment-at p q = rw (sym e ∙ ap item_case q) at (item-facts d false true stop at)

  pub fragments-less : (start end : ℕ) (inner : Bool) → r ≡ Ok (header.Item start end inner) → at ≤ stop → stop - end < stop - at
  fragments-less start end inner q h = let k = (fragment-at (Ok (header.Item start end inner)) q).0 in omega (arith, k)

  module _ (left : ℕ) (h : at ≤ stop) where
    fragments-at : (p : Result ItemHeader Answer) → r ≡ p → fragments_at explicit d left stop at ≡ by_fragment (fragments_at explicit d left stop) (item_case p)
    fragments-at p q = fragments-by d left stop at h (item_case p) (sym e ∙ ap item_case q)

    pub fragments-refused : (f : Answer) (R : Result ℕ Answer) → r ≡ Err f → R ≡ outcome_of (fragments_at explicit d left stop at) → Err f ≡ R
    unfolding by_fragment
    fragments-refused f R q i = sym (i ∙ ap outcome_of (fragments-at (Err f) q))

    pub fragments-end : (next : ℕ) (R : Result ℕ Answer) → r ≡ Ok (header.End next) → R ≡ outcome_of (fragments_at explicit d left stop at) → Ok next ≡ R
    unfolding by_fragment
    fragments-end next R q i = sym (i ∙ ap outcome_of (fragments-at (Ok (header.End next)) q))

    pub fragments-again : (start end : ℕ) (inner : Bool) (from : ℕ) → r ≡ Ok (header.Item start end inner) → FragmentsLoop d left stop from at → FragmentsLoop d left stop from end
    unfolding by_fragment
    fragments-again start end inner from q i = record {
      inside = (fragment-at (Ok (header.Item start end inner)) q).0.inside;
      same = i.same ∙ rw (fragments-at (Ok (header.Item start end inner)) q) (last (fragments_at explicit d left stop end) _ λ a n. refl);
    }

-- ---- elements: r is what the reader of one element answers
module _ (d : List ℕ) (delimited : Bool) (left stop at least : ℕ) (r : Result OneOutcome Answer) (e : one_case r ≡ handed_on (one_at explicit d delimited left stop at least)) (h : at ≤ stop) where
  pub answered : one_outcome_of (one_at explicit d delimited left stop at least) ≡ r
  answered = sym (handed-back (one_at explicit d delimited left stop at least) r e)

  pub elements-refused : (f : Answer) (R : Result ℕ Answer) → r ≡ Err f
      → R ≡ outcome_of (elements_at explicit d delimited left stop at least) → Err f ≡ R
  elements-refused f R q i =
      sym (i ∙ ap outcome_of (elements-by d delimited left stop at least h (fault f) (is-one-fault (one_at explicit d delimited left stop at least) f (answered ∙ q))))

  pub elements-end : (next : ℕ) (R : Result ℕ Answer) → r ≡ Ok (one.End next) → R ≡ outcome_of (elements_at explicit d delimited left stop at least) → Ok next ≡ R
  unfolding by_one
  elements-end next R q i =
      sym (i ∙ ap outcome_of (elements-by d delimited left stop at least h (read ended next) (is-one-end (one_at explicit d delimited left stop at least) next (answered ∙ q))))

  module _ (tag vr start end next : ℕ) (q : r ≡ Ok (one.Element tag vr start end next)) where
    pub one_found : IsElement (one_at explicit d delimited left stop at least) tag vr start end next
    one_found = is-element (one_at explicit d delimited left stop at least) tag vr start end next (answered ∙ q)

    pub one-past : (at < next) × (next ≤ stop)
    one-past = let w : OneIn at stop (read (element one_found.what) next) = rw one_found.is at (one_in explicit explicit-bounded d delimited left stop at least h) in w

    pub elements-less : stop - next < stop - at
    elements-less = let k = one-past in omega (arith, k)

    pub elements-again : (from : ℕ) → ElementsLoop d delimited left stop from at least → ElementsLoop d delimited left stop from next (tag + 1)
    unfolding by_one
    elements-again from i = record {
      inside = one-past.1;
      same = i.same ∙ rw (elements-by d delimited left stop at least h (read (element one_found.what) next) one_found.is, one_found.tagged)
          (last (elements_at explicit d delimited left stop next (tag + 1)) _ λ b m. refl);
    }

-- ---- items: r is what stands at `at`, and o what the reader of an item's elements answers
module _ (d : List ℕ) (x : Extent) (at : ℕ) (r : Result OpenedItem Answer) (e : opened_case r ≡ opened_item d x at) (h : at ≤ x.stop) where
  pub items_refused : (f : Answer) (R : Result ℕ Answer) → r ≡ Err f → R ≡ outcome_of (items_from d x at) → Err f ≡ R
  items_refused f R q i = sym (i ∙ ap outcome_of (from.items_refused d x at r e h f q))

  pub items-end : (next : ℕ) (R : Result ℕ Answer) → r ≡ Ok (place.End next) → R ≡ outcome_of (items_from d x at) → Ok next ≡ R
  items-end next R q i = sym (i ∙ ap outcome_of (from.items-end d x at r e h next q))

  module _ (inside : Extent) (q : r ≡ Ok (place.Item inside)) where
    pub item-lies : x.stop ≤ length d → Lies d inside
    item-lies = from.item-lies d x at r e inside q

    -- the readers' measure falls from a sequence's items to the elements of an item
    pub elements-fall : (t : ℕ) → 0 < x.left → 3 * x.left ≡ t → 3 * inside.left + 2 < t
    elements-fall t l m = let k = deeper-falls x.left l in omega (arith, k, from.item-deep d x at r e inside q, m)

    module _ (o : Result ℕ Answer) (v : o ≡ outcome_of (elements_in d inside)) where
      pub item_refused : (g : Answer) (R : Result ℕ Answer) → o ≡ Err g → R ≡ outcome_of (items_from d x at) → Err g ≡ R
      item_refused g R w i = sym (i ∙ rw (from.items-are-one d x at r e inside q h, is-fault (elements_in d inside) g (sym v ∙ w)))

      item-past : (n : ℕ) → o ≡ Ok n → (at < n) × (n ≤ x.stop)
      item-past n w = let k = is_read (elements_in d inside) n (sym v ∙ w) in from.item-past d x at r e inside q k.what n k.is

      pub item-less : (n : ℕ) → o ≡ Ok n → x.stop - n < x.stop - at
      item-less n w = let k = item-past n w in omega (arith, k)

      pub item-again : (n : ℕ) → o ≡ Ok n → ItemsLoop d x at → ItemsLoop d x n
      item-again n w i = record {
        inside = (item-past n w).1;
        same = i.same ∙ rw (from.items-are-one d x at r e inside q h)
            (then_next (elements_in d inside) _ n _ (sym v ∙ w) λ a. last (items_from d x n) _ λ b m. refl);
      }

-- ---- a whole data set
pub size-within : (d : List ℕ) → length d ≤ size_limit → size_answer d ≡ answer.accepted 0
unfolding size_answer
size-within d h = rw (le-ltb size_limit (length d) h)

pub size-over : (d : List ℕ) → size_limit < length d → size_answer d ≡ answer.refused 1 0
unfolding size_answer
size-over d h = rw (lt-ltb size_limit (length d) h)

pub data-set-is : (d : List ℕ) → length d ≤ size_limit → data_set d ≡ elements_at explicit d false levels (length d) 0 0
unfolding data_set unless_refused
data-set-is d h = rw (size-within d h)

pub data-set-over : (d : List ℕ) → size_limit < length d → data_set d ≡ fault (answer.refused 1 0)
unfolding data_set unless_refused
data-set-over d h = rw (size-over d h)

-- ---- `size_answer`, and what follows of what it answers
pub size-is-within : (d : List ℕ) → length d ≤ size_limit → Ok tt ≡ test_by (size_answer d)
unfolding test_by
size-is-within d h = rw (size-within d h)

pub size-is-over : (d : List ℕ) (f : Answer) → size_limit < length d → f ≡ answer.refused 1 0 → Err f ≡ test_by (size_answer d)
unfolding test_by
size-is-over d f h e = rw (size-over d h, e)

module _ (d : List ℕ) (r : Result (Unit {0}) Answer) (e : r ≡ test_by (size_answer d)) where
  pub size-passed : (u : Unit {0}) → r ≡ Ok u → length d ≤ size_limit
  size-passed u w = go (ltb size_limit (length d)) refl
    where
      go : (b : Bool) → ltb size_limit (length d) ≡ b → length d ≤ size_limit
      go false q = ltb-false size_limit (length d) q
      go true q =
          let k : ◌≡◌ {A = ℕ} 1 0 = sym (ap (λ (x : Answer). x.number) (size-over d (ltb-true size_limit (length d) q))) ∙ test-accepted r (size_answer d) e u w in
          absurd (omega arith)

  pub size-refused : (f : Answer) → r ≡ Err f → data_set d ≡ fault f
  unfolding data_set unless_refused
  size-refused f q =
      let k = test-is r (size_answer d) e f q in
      rw (← k, ne_eqb f.number 0 (test-refused r (size_answer d) e f q))

  pub read-over : (f : Answer) (R : Result ℕ Answer) → r ≡ Err f → R ≡ outcome_of (data_set d) → Err f ≡ R
  read-over f R q i = sym (i ∙ ap outcome_of (size-refused f q))

pub read-within : (d : List ℕ) (x : Extent) (R : Result ℕ Answer) → length d ≤ size_limit → x ≡ whole_of (length d) → R ≡ outcome_of (elements_in d x)
    → R ≡ outcome_of (data_set d)
read-within d x R h w e = e ∙ rw w (sym (ap outcome_of (data-set-is d h)))

-- ---- the answer of the reading
module _ {A : Type 0} (p : Reading A) (o : Result ℕ Answer) (e : o ≡ outcome_of p) where
  pub read-refused : (f : Answer) → o ≡ Err f → f ≡ answer_of p
  read-refused f x = sym (ap answer_of (is-fault p f (sym e ∙ x)))

  pub read-accepted : (n : ℕ) (a : Answer) → o ≡ Ok n → a ≡ answer.accepted 0 → a ≡ answer_of p
  read-accepted n a x y = let i = is_read p n (sym e ∙ x) in y ∙ sym (ap answer_of i.is)
