-- What 18 to 23 give, place by place of `select`, with the facts of the place as premises. Assumes nothing.
use Rattle.std.specs.Prelude.{Result, Ok, Err, None, Some, unwrap_or}
use Rattle.std.specs.Prelude as code
use Rattle.std.specs.Borrow.{Bor}
use Prim.Native.Nat.{ℕ}
use mathlib.Core.Path.{◌≡◌, refl, sym}
use mathlib.Core.List.{List}
use mathlib.Core.Option.{Option, some}
use mathlib.Core.Option as Opt
use Rattle.answer.specs.declared.Answer.{Answer}
use Rattle.answer.specs.Answer.{refused}
use Rattle.dataset.specs.Tree.{Elements}
use Rattle.dataset.specs.Reading.{tree_of}
use Rattle.dataset.specs.Lookup.{element_of}
use Rattle.selection.specs.Selection.{mac_id_of, signature_item, parameters_item, need, parameters_select, select_in}
use Rattle.dataset.specs.Tags.{mac_id_number, mac_parameters_sequence, digital_signatures_sequence}
use Rattle.dataset.specs.Extent.{elements_in}
use Rattle.dataset.specs.Place.{SoughtIn}
use Rattle.selection.specs.Inner.Selection.{bytes_of, MacIdAt, ItemFound, FoundItemAs, FoundItemUnder, SignatureItemAt, ParametersSelected}
use Rattle.selection.specs.Selected.{SelectionAs, SelectedIn}
use Rattle.dataset.specs.declared.extent.Extent.{Extent}
use Rattle.dataset.specs.declared.seek.Sought.{Sought}
use Rattle.selection.specs.declared.items.ItemKey.TheVariants as key
use Rattle.selection.specs.declared.items.FoundItem.{FoundItem}
use Rattle.selection.specs.declared.select.Selected.{Selected}
use Rattle.dataset.proofs.Laws.Seek.Places.{IsSought, sought-past, sought-refused}
use Rattle.selection.proofs.Laws.PlaceValues.{never}

-- ---- an item

-- what is found, where o is the item that is meant
record Picked (d : List ℕ) (o : Option Elements) (item : FoundItem) : Type 0 where
  elements : Elements
  same : o ≡ some elements
  found : ItemFound d elements item

module _ (d : List ℕ) (r : code.Option FoundItem) where
  picked_none : (o : Option Elements) → FoundItemAs d o r → r ≡ None → o ≡ Opt.none
  picked_none Opt.none k is = refl
  picked_none (some es) k is = never (cc k.1)

  picked : (o : Option Elements) (item : FoundItem) → FoundItemAs d o r → r ≡ Some item → Picked d o item
  picked Opt.none item k is = never (cc)
  picked (some es) item k is =
      let a : k.0 ≡ item = cc k.1 in
      record { elements = es; same = refl; found = rw a at k.2 }

-- ---- 18 to 23, in an extent of an instance, which is `whole`
module _ (uid : List ℕ) (which : code.Option ℕ) (d : List ℕ) (whole x : Extent) (f : Result Sought Answer)
    (s : SoughtIn d mac_parameters_sequence digital_signatures_sequence (elements_in d x) f) where
  pub select-fault : (a : Answer) → f ≡ Err a → SelectedIn uid which d whole x (Err a)
  select-fault a is = let e = sought-refused d _ _ (elements_in d x) f a s is in rw e

  module _ (z : Sought) (is : f ≡ Ok z) where
    it : IsSought d mac_parameters_sequence digital_signatures_sequence (elements_in d x) z.first z.second z.next
    it = sought-past d _ _ (elements_in d x) f z.first z.second z.next s is

    by-elements : (r : Result Selected Answer) → SelectionAs d x (select_in uid which (tree_of (elements_in d whole)) d it.what) r → SelectedIn uid which d whole x r
    by-elements r h = let e = it.is in rw e h

    module _ (o : code.Option FoundItem) (g : SignatureItemAt d which z.second o) where
      pub select-none : (a : Answer) → o ≡ None → a ≡ refused 18 0 → SelectedIn uid which d whole x (Err a)
      unfolding select_in
      select-none a c j = by-elements (Err a) (rw (picked_none d o (signature_item which it.what) (g.says it.what it.placed') c, j))

      module _ (item : FoundItem) (c : o ≡ Some item) where
        chosen : Picked d (signature_item which it.what) item
        chosen = picked d o (signature_item which it.what) item (g.says it.what it.placed') c

        module _ (m : code.Option (Bor (List ℕ))) (h : MacIdAt d item.id m) where
          id-is : mac_id_of chosen.elements d ≡ bytes_of m
          unfolding mac_id_of
          id-is = sym (h.says (element_of mac_id_number chosen.elements) chosen.found.placed)

          -- what is left of the selection: 19 to 23
          from-id : select_in uid which (tree_of (elements_in d whole)) d it.what
              ≡ need 19 (bytes_of m) (λ id. need 20 (parameters_item id it.what d) (λ ps. parameters_select uid d it.what chosen.elements ps))
          unfolding select_in
          from-id = rw (chosen.same, id-is)

          pub select-no-id : (a : Answer) → m ≡ None → a ≡ refused 19 0 → SelectedIn uid which d whole x (Err a)
          select-no-id a k j = by-elements (Err a) (rw (from-id, k, j))

          module _ (id : Bor (List ℕ)) (k : m ≡ Some id) (p : code.Option FoundItem) (u : FoundItemUnder d z.first (key.MacId id) p) where
            under : FoundItemAs d (parameters_item id.now it.what d) p
            unfolding parameters_item
            under = u.says (element_of mac_parameters_sequence it.what) it.placed

            pub select-no-parameters : (a : Answer) → p ≡ None → a ≡ refused 20 0 → SelectedIn uid which d whole x (Err a)
            select-no-parameters a q j = by-elements (Err a) (rw (from-id, k, picked_none d p (parameters_item id.now it.what d) under q, j))

            module _ (ps : FoundItem) (q : p ≡ Some ps) where
              meant : Picked d (parameters_item id.now it.what d) ps
              meant = picked d p (parameters_item id.now it.what d) ps under q

              pub select-rest : (r : Result Selected Answer) → ParametersSelected uid d x item.inside ps r → SelectedIn uid which d whole x r
              select-rest r w = by-elements r (rw (from-id, k, meant.same)
                  (w.says it.what chosen.elements meant.elements z.next chosen.found.next meant.found.next it.is chosen.found.reads meant.found.reads meant.found.placed'))
