-- The items of an extent from an offset on, by what `open_item` answers there. Assumes nothing.
use Rattle.std.specs.Prelude.{Result, Ok, Err}
use Prim.Native.Nat.{ℕ, ◌≤◌, ◌<◌}
use mathlib.Core.Path.{◌≡◌, refl, sym, ap, ◌∙◌}
use mathlib.Core.Bool.{true, true≢false}
use mathlib.Core.List.{List}
use native.Mathlib.Omega.{arith}
use lib.ListN.{length}
use Rattle.answer.specs.declared.Answer.{Answer}
use Rattle.dataset.specs.Header.{ItemHeader, item_at}
use Rattle.dataset.specs.Tree.{Elements, Items}
use Rattle.dataset.specs.Reading.{Reading, fault, read, ◌>>=◌, explicit, by_item, items_at, deeper}
use Rattle.dataset.specs.Extent.{OpenedItem, elements_in, opened_by, opened_item, opened_case}
use Rattle.dataset.specs.Place.{Lies}
use Rattle.dataset.specs.Inner.Outcomes.{outcome_of}
use Rattle.dataset.specs.declared.extent.Extent.{Extent}
use Rattle.dataset.specs.declared.extent.OpenedItem as item_enum
use Rattle.dataset.specs.declared.extent.OpenedItem.TheVariants as opened
use Rattle.dataset.proofs.Laws.Header.HeaderFacts.{ItemFacts, ItemSpan, item-facts}
use Rattle.dataset.proofs.Laws.Reading.Unfolding.{items-by}
use Rattle.dataset.proofs.Laws.Reading.Outcomes.{elements-next}

-- the items of an extent from `at` on
abbrev pub items_from : List ℕ → Extent → (at : ℕ) → Reading Items
items_from d x at = items_at explicit d x.delimited x.left x.stop at

-- ---- the header, by what stands in an item's place
is-refused : (left : ℕ) (p : ItemHeader) (f : Answer) → opened_by left p ≡ OpenedItem.refused f → p ≡ ItemHeader.refused f
is-refused left (ItemHeader.refused a) f q = let k : a ≡ f = cc in ap ItemHeader.refused k
is-refused left (ItemHeader.ends n) f q = absurd (true≢false (cc))
is-refused left (ItemHeader.item start end inner) f q = absurd (true≢false (cc))

is-end : (left : ℕ) (p : ItemHeader) (next : ℕ) → opened_by left p ≡ OpenedItem.ends next → p ≡ ItemHeader.ends next
is-end left (ItemHeader.refused a) next q = absurd (true≢false (cc))
is-end left (ItemHeader.ends n) next q = let k : n ≡ next = cc in ap ItemHeader.ends k
is-end left (ItemHeader.item start end inner) next q = absurd (true≢false (cc))

record IsItem (left : ℕ) (p : ItemHeader) (inside : Extent) : Type 0 where
  pub is : p ≡ ItemHeader.item inside.from inside.stop inside.delimited
  pub deep : inside.left ≡ deeper left

is-item : (left : ℕ) (p : ItemHeader) (inside : Extent) → opened_by left p ≡ OpenedItem.item inside → IsItem left p inside
is-item left (ItemHeader.refused a) inside q = absurd (true≢false (cc))
is-item left (ItemHeader.ends n) inside q = absurd (true≢false (cc))
is-item left (ItemHeader.item start end inner) inside q =
    let k : record { delimited = inner; left = deeper left; stop = end; from = start } ≡ inside = cc in
    rw (← k) record { is = refl; deep = refl }

-- ---- what is read from `at` on: r is what `open_item` answers there
module _ (d : List ℕ) (x : Extent) (at : ℕ) (r : Result item_enum.OpenedItem Answer) (e : opened_case r ≡ opened_item d x at) where
  answered : (p : Result item_enum.OpenedItem Answer) → r ≡ p → opened_by x.left (item_at d true x.delimited x.stop at) ≡ opened_case p
  unfolding opened_item
  answered p q = sym e ∙ ap opened_case q

  module _ (h : at ≤ x.stop) where
    pub items_refused : (f : Answer) → r ≡ Err f → items_from d x at ≡ fault f
    unfolding by_item
    items_refused f q =
        items-by d x.delimited x.left x.stop at h (ItemHeader.refused f) (is-refused x.left (item_at d true x.delimited x.stop at) f (answered (Err f) q))

    pub items-end : (next : ℕ) → r ≡ Ok (opened.End next) → items_from d x at ≡ read Items.last next
    unfolding by_item
    items-end next q = items-by d x.delimited x.left x.stop at h (ItemHeader.ends next) (is-end x.left (item_at d true x.delimited x.stop at) next (answered (Ok (opened.End next)) q))

  module _ (inside : Extent) (q : r ≡ Ok (opened.Item inside)) where
    it : IsItem x.left (item_at d true x.delimited x.stop at) inside
    it = is-item x.left (item_at d true x.delimited x.stop at) inside (answered (Ok (opened.Item inside)) q)

    pub item-deep : inside.left ≡ deeper x.left
    item-deep = it.deep

    item-span : ItemSpan d x.stop at inside.from inside.stop inside.delimited
    item-span =
        let k : ItemFacts d true x.delimited x.stop at (ItemHeader.item inside.from inside.stop inside.delimited) =
        rw it.is at (item-facts d true x.delimited x.stop at) in
        k.0

    pub item-lies : x.stop ≤ length d → Lies d inside
    item-lies l = let k = item-span in record { order = k.order; inside = omega (arith, k.inside) }

    -- one item and the rest
    pub items-are-one : (h : at ≤ x.stop) → items_from d x at
        ≡ (elements_in d inside >>= λ (es, next). items_from d x next >>= λ (rest, after). read (Items.item at es rest) after)
    unfolding by_item
    items-are-one h = rw it.deep (items-by d x.delimited x.left x.stop at h (ItemHeader.item inside.from inside.stop inside.delimited) it.is)

    pub item-past : (es : Elements) (next : ℕ) → elements_in d inside ≡ read es next → (at < next) × (next ≤ x.stop)
    item-past es next w =
        let j = item-span in
        let n = elements-next d inside.left inside.stop inside.from next j.order inside.delimited 0 (sym (ap outcome_of w)) in
        omega (arith, j, n)
