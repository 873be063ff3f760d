-- What 21 to 23 give, place by place of `select_parameters`, with the facts of the place as premises. Assumes nothing.
use Rattle.std.specs.Prelude.{Result, Ok, Err, None, Some}
use Rattle.std.specs.Prelude as code
use Rattle.std.specs.Borrow.{Bor}
use Prim.Native.Nat.{ℕ}
use mathlib.Core.Path.{◌≡◌, refl, sym, ◌∙◌}
use mathlib.Core.Bool.{Bool, true, false}
use mathlib.Core.List.{List}
use mathlib.Core.Option.{Option, some}
use mathlib.Core.Option as Opt
use Rattle.answer.specs.declared.Answer.{Answer}
use Rattle.answer.specs.Answer.{refused}
use Rattle.dataset.specs.Vr.{AT, CS, UI}
use Rattle.dataset.specs.Tree.{Elements}
use Rattle.dataset.specs.Reading.{read}
use Rattle.dataset.specs.Lookup.{element_of}
use Rattle.selection.specs.Selection.{value_of, bad_transfer_syntax, algorithm_of, need, selected, parameters_select}
use Rattle.dataset.specs.Tags.{mac_calculation_transfer_syntax_uid, mac_algorithm, data_elements_signed}
use Rattle.selection.specs.Selection as spec
use Rattle.dataset.specs.Extent.{elements_in}
use Rattle.dataset.specs.Place.{SoughtIn}
use Rattle.selection.specs.Inner.Selection.{bytes_of, ValueAt, named_case, ParametersSelected}
use Rattle.selection.specs.Selected.{algorithm_case}
use Rattle.dataset.specs.declared.extent.Extent.{Extent}
use Rattle.dataset.specs.declared.seek.Place.TheVariants as place
use Rattle.dataset.specs.declared.seek.Sought.{Sought}
use Rattle.selection.specs.declared.items.FoundItem.{FoundItem}
use Rattle.selection.specs.declared.select.Algorithm.{Algorithm}
use Rattle.selection.specs.declared.select.Selected.{Selected}
use Rattle.dataset.proofs.Laws.Extent.Outside.{read-lies}
use Rattle.dataset.proofs.Laws.Seek.Places.{IsSought, sought-past, sought-refused}
use Rattle.selection.proofs.Laws.PlaceValues.{never, NoValueOf, no_value, value-in}

-- the algorithm that the code has named
record NamedBy (o : Option spec.Algorithm) (a : Algorithm) : Type 0 where
  algorithm : spec.Algorithm
  same : o ≡ some algorithm
  case : a ≡ algorithm_case algorithm

not_named : (o : Option spec.Algorithm) → None ≡ named_case o → o ≡ Opt.none
not_named Opt.none e = refl
not_named (some b) e = never (cc)

named_by : (o : Option spec.Algorithm) (a : Algorithm) → Some a ≡ named_case o → NamedBy o a
named_by Opt.none a e = never (cc)
named_by (some b) a e = record { algorithm = b; same = refl; case = cc }

module _ (uid d : List ℕ) (signed signature : Extent) (item : FoundItem) (f : Result Sought Answer)
    (s : SoughtIn d mac_calculation_transfer_syntax_uid mac_algorithm (elements_in d item.inside) f) where
  pub list-fault : (a : Answer) (r : Result Selected Answer) → f ≡ Err a → ParametersSelected uid d signed signature item r
  list-fault a r is = record { says = λ es parts ps k n m u x y q. never (cc (y, sought-refused d _ _ (elements_in d item.inside) f a s is)) }

  module _ (z : Sought) (is : f ≡ Ok z) where
    fields : IsSought d mac_calculation_transfer_syntax_uid mac_algorithm (elements_in d item.inside) z.first z.second z.next
    fields = sought-past d _ _ (elements_in d item.inside) f z.first z.second z.next s is

    -- parameters whose elements are ps
    module _ (ps : Elements) (m : ℕ) (y : elements_in d item.inside ≡ read ps m) where
      same : fields.what ≡ ps
      same = let h = fields.is in cc

      syntax-is : (v : code.Option (Bor (List ℕ))) → ValueAt UI d z.first v → value_of UI (element_of mac_calculation_transfer_syntax_uid ps) d ≡ bytes_of v
      syntax-is v g = sym (g.says (element_of mac_calculation_transfer_syntax_uid ps) (rw same at fields.placed))

      algorithm-is : (v : code.Option (Bor (List ℕ))) → ValueAt CS d z.second v → value_of CS (element_of mac_algorithm ps) d ≡ bytes_of v
      algorithm-is v g = sym (g.says (element_of mac_algorithm ps) (rw same at fields.placed'))

    module _ (v : code.Option (Bor (List ℕ))) (g : ValueAt UI d z.first v) (b : Bool) (w : b ≡ bad_transfer_syntax uid (bytes_of v)) where
      pub list-syntax : (a : Answer) → b ≡ true → a ≡ refused 21 0 → ParametersSelected uid d signed signature item (Err a)
      unfolding parameters_select
      list-syntax a t j = record { says = λ es parts ps k n m u x y q. rw (syntax-is ps m y v g, ← w, t, j) }

      module _ (t : b ≡ false) (term : code.Option (Bor (List ℕ))) (g' : ValueAt CS d z.second term) (o : code.Option Algorithm)
          (h : o ≡ named_case (algorithm_of (bytes_of term))) where
        pub list-algorithm : (a : Answer) → o ≡ None → a ≡ refused 22 0 → ParametersSelected uid d signed signature item (Err a)
        unfolding parameters_select
        list-algorithm a c j = record {
          says = λ es parts ps k n m u x y q.
              rw (syntax-is ps m y v g, ← w, t, algorithm-is ps m y term g', not_named (algorithm_of (bytes_of term)) (sym c ∙ h), j);
        }

        module _ (a : Algorithm) (c : o ≡ Some a) where
          named : NamedBy (algorithm_of (bytes_of term)) a
          named = named_by (algorithm_of (bytes_of term)) a (sym c ∙ h)

          -- what is left of the selection: 23
          by-list : (x : spec.Algorithm) → algorithm_of (bytes_of term) ≡ some x → (es parts ps : Elements) (m : ℕ) → elements_in d item.inside ≡ read ps m
              → parameters_select uid d es parts ps ≡ need 23 (value_of AT (element_of data_elements_signed ps) d) (λ bytes. selected bytes x es parts)
          unfolding parameters_select
          by-list x j es parts ps m y = rw (syntax-is ps m y v g, ← w, t, algorithm-is ps m y term g', j)

          rest : (es parts ps : Elements) (m : ℕ) → elements_in d item.inside ≡ read ps m → parameters_select uid d es parts ps
              ≡ need 23 (value_of AT (element_of data_elements_signed ps) d) (λ bytes. selected bytes named.algorithm es parts)
          rest = by-list named.algorithm named.same

          without-list : (e : Answer) → NoValueOf AT item.list → e ≡ refused 23 0 → ParametersSelected uid d signed signature item (Err e)
          without-list e h' j = record {
            says = λ es parts ps k n m u x y q. rw (rest es parts ps m y, no_value AT d item.list (element_of data_elements_signed ps) h' q, j);
          }

          pub list-none : (e : Answer) → ((vr start end : ℕ) → item.list ≡ place.Value vr start end → ⊥) → e ≡ refused 23 0
              → ParametersSelected uid d signed signature item (Err e)
          list-none e h' j = without-list e (h' AT) j

          module _ (vr start end : ℕ) (is' : item.list ≡ place.Value vr start end) where
            pub list-other : (e : Answer) → (vr ≡ AT → ⊥) → e ≡ refused 23 0 → ParametersSelected uid d signed signature item (Err e)
            list-other e h' j = without-list e (λ from to k. h' (cc)) j

            pub list-selected : vr ≡ AT → ParametersSelected uid d signed signature item (Ok (record { start = start; end = end; algorithm = a; signed = signed; item = signature }))
            list-selected h' =
                let j : item.list ≡ place.Value AT start end = cc in
                record {
                  says = λ es parts ps k n m u x y q.
                      let l = value-in AT d item.list start end j (element_of data_elements_signed ps) q in
                      rw (rest es parts ps m y, l.same) (
                        _,
                        refl,
                        record {
                          order = l.order;
                          inside = l.inside;
                          listed = refl;
                          algorithm = named.case;
                          signed = refl;
                          lies = read-lies d signed (rw u);
                          next = k;
                          reads = u;
                          item-lies = read-lies d signature (rw x);
                          item-next = n;
                          item-reads = x;
                        },
                      );
                }
