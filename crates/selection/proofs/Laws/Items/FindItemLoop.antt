-- What one turn of the loop of `find_item` does, with the facts of the place as premises. Assumes nothing.
use Rattle.std.specs.Prelude.{Result, Ok, Err, None, Some}
use Rattle.std.specs.Prelude as code
use Rattle.std.specs.Result.{result_ok}
use Prim.Native.Nat.{ℕ, ◌+◌, ◌-◌, ◌≤◌, ◌<◌}
use mathlib.Core.Path.{◌≡◌, refl, sym, ap, ◌∙◌}
use mathlib.Core.Bool.{Bool, true, false}
use mathlib.Core.List.{List}
use native.Mathlib.Omega.{arith}
use Rattle.answer.specs.declared.Answer.{Answer}
use Rattle.dataset.specs.Tags.{mac_id_number, data_elements_signed}
use Rattle.dataset.specs.Tree.{Elements, Items}
use Rattle.dataset.specs.Reading.{Reading, fault, read, ◌>>=◌}
use Rattle.dataset.specs.Extent.{elements_in, items_in, opened_item, opened_case}
use Rattle.dataset.specs.Place.{Lies, SoughtIn}
use Rattle.dataset.specs.declared.extent.Extent.{Extent}
use Rattle.dataset.specs.declared.extent.OpenedItem.{OpenedItem}
use Rattle.dataset.specs.declared.extent.OpenedItem.TheVariants as item
use Rattle.dataset.specs.declared.seek.Sought.{Sought}
use Rattle.dataset.proofs.Laws.Extent.ItemsFrom.{items_from, items_refused, items-end, items-are-one, item-past}
use Rattle.dataset.proofs.Laws.Seek.Places.{IsSought, sought-past, sought-refused}
use Rattle.selection.specs.Selection.{first_item}
use Rattle.selection.specs.Inner.Selection.{has_key, TestsKey, ItemFound, FoundItemIn}
use Rattle.selection.specs.declared.items.ItemKey.{ItemKey}
use Rattle.selection.specs.declared.items.FoundItem.{FoundItem}
use Rattle.selection.proofs.Laws.PlaceValues.{never}

-- ---- what is known of a `Result` by its value, or by none
pub value-of : {T : Type 0} (r : Result T Answer) (o : code.Option T) (x : T) → o ≡ result_ok r → o ≡ Some x → r ≡ Ok x
value-of (Ok y) o x v h = let e : y ≡ x = cc in ap Ok e
value-of (Err f) o x v h = never (cc)

no-value : {T : Type 0} (r : Result T Answer) → result_ok r ≡ None → (f : Answer) × (r ≡ Err f)
no-value (Ok y) h = never (cc)
no-value (Err f) h = (f, refl)

-- the items from `at` on, of which the first has the number `index`: in an extent that lies inside the data, what is chosen among them is chosen
-- among all
pub record FindItemLoop (d : List ℕ) (x : Extent) (w : ItemKey) (at index : ℕ) : Type 0 where
  pub inside : Lies d x → at ≤ x.stop
  pub few : index ≤ at
  pub on : Lies d x → (z : code.Option FoundItem) → FoundItemIn d w index (items_from d x at) z → FoundItemIn d w 0 (items_in d x) z

pub find-item-start : (d : List ℕ) (x : Extent) (w : ItemKey) → FindItemLoop d x w x.from 0
find-item-start d x w = record { inside = λ l. l.order; few = omega arith; on = λ l z h. h }

-- ---- an item in front of what is left, by whether it is meant
module _ (d : List ℕ) (w : ItemKey) (at index : ℕ) (es : Elements) where
  meant : (z : FoundItem) (o : Reading Items) → has_key d w index es ≡ true → ItemFound d es z
      → FoundItemIn d w index (o >>= λ (rest, after). read (Items.item at es rest) after) (Some z)
  unfolding first_item
  meant z (fault f) t h = tt
  meant z (read rest n) t h = rw t (z, refl, h)

  passed : (z : code.Option FoundItem) (o : Reading Items) → has_key d w index es ≡ false → FoundItemIn d w (index + 1) o z
      → FoundItemIn d w index (o >>= λ (rest, after). read (Items.item at es rest) after) z
  unfolding first_item
  passed z (fault f) t h = tt
  passed z (read rest n) t h = rw t h

-- ---- a turn of the loop: r is what stands at `at`
module _ (d : List ℕ) (x : Extent) (at : ℕ) (r : Result OpenedItem Answer) (e : opened_case r ≡ opened_item d x at) (w : ItemKey) (index : ℕ) (i : FindItemLoop d x w at index) where
  pub find-item-refused : (o : code.Option OpenedItem) → o ≡ result_ok r → o ≡ None → Lies d x → FoundItemIn d w 0 (items_in d x) None
  find-item-refused o v h l = let f = no-value r (sym v ∙ h) in i.on l None (rw (items_refused d x at r e (i.inside l) f.0 f.1) tt)

  pub find-item-end : (p : OpenedItem) → r ≡ Ok p → ((inside : Extent) → p ≡ item.Item inside → ⊥) → Lies d x → FoundItemIn d w 0 (items_in d x) None
  unfolding first_item
  find-item-end (item.End next) q h l = i.on l None (rw (items-end d x at r e (i.inside l) next q) refl)
  find-item-end (item.Item inside) q h l = absurd (h inside refl)

  -- an item, and s is what is sought in it
  module _ (inside : Extent) (q : r ≡ Ok (item.Item inside)) (s : Result Sought Answer) (k : SoughtIn d mac_id_number data_elements_signed (elements_in d inside) s) where
    pub find-item-fault : (o : code.Option Sought) → o ≡ result_ok s → o ≡ None → Lies d x → FoundItemIn d w 0 (items_in d x) None
    find-item-fault o v h l =
        let f = no-value s (sym v ∙ h) in
        i.on l None
        (rw (items-are-one d x at r e inside q (i.inside l), sought-refused d mac_id_number data_elements_signed (elements_in d inside) s f.0 k f.1) tt)

    module _ (z : Sought) (m : s ≡ Ok z) where
      it : IsSought d mac_id_number data_elements_signed (elements_in d inside) z.first z.second z.next
      it = sought-past d mac_id_number data_elements_signed (elements_in d inside) s z.first z.second z.next k m

      items-then : Lies d x → items_from d x at ≡ (items_from d x z.next >>= λ (rest, after). read (Items.item at it.what rest) after)
      items-then l = rw (items-are-one d x at r e inside q (i.inside l), it.is)

      past : (at < z.next) × (z.next ≤ x.stop)
      past = item-past d x at r e inside q it.what z.next it.is

      pub find-item-count : index + 1 ≤ x.stop
      find-item-count = let n = past in omega (arith, i.few, n)

      pub find-item-less : x.stop - z.next < x.stop - at
      find-item-less = let n = past in omega (arith, n)

      module _ (b : Bool) (u : TestsKey d w index z.first b) where
        pub find-item-found : b ≡ true → Lies d x → FoundItemIn d w 0 (items_in d x) (Some (record { inside = inside; id = z.first; list = z.second }))
        find-item-found t l =
            let h = it in
            i.on l (Some (record { inside = inside; id = z.first; list = z.second }))
            (rw (items-then l)
            (meant d w at index h.what (record { inside = inside; id = z.first; list = z.second }) (items_from d x z.next)
            (sym (u h.what h.placed) ∙ t)
            record { next = z.next; reads = h.is; placed = h.placed; placed' = h.placed' }))

        pub find-item-again : b ≡ false → FindItemLoop d x w z.next (index + 1)
        find-item-again t =
            let h = it in
            let n = past in
            record {
              inside = λ l. n.1;
              few = omega (arith, i.few, n);
              on = λ l o y. i.on l o (rw (items-then l) (passed d w at index h.what o (items_from d x z.next)
                  (sym (u h.what h.placed) ∙ t) y));
            }
