-- A refusal of the selection has a number from 18 on. Assumes nothing.
use Rattle.std.proofs.Common.{if◌then◌else◌}
use Rattle.std.specs.Prelude as code
use Prim.Native.Nat.{ℕ, ◌≤◌}
use mathlib.Core.Path.{◌≡◌}
use mathlib.Core.Logic.{◌≢◌}
use mathlib.Core.Bool.{Bool, true, false}
use mathlib.Core.List.{List}
use mathlib.Core.Option.{Option, some}
use mathlib.Core.Option as Opt
use native.Mathlib.Omega.{arith}
use Rattle.dataset.specs.Vr.{AT, CS, UI}
use Rattle.dataset.specs.Tree.{Elements}
use Rattle.dataset.specs.Lookup.{element_of}
use Rattle.selection.specs.Selection.{value_of, need, Algorithm, Selection, refusal, selected, signature_item, mac_id_of, parameters_item, parameters_select, select_in, select, bad_transfer_syntax, algorithm_of}
use Rattle.dataset.specs.Tags.{mac_calculation_transfer_syntax_uid, mac_algorithm, data_elements_signed}

abbrev pub Numbered : Selection → Type 0
Numbered (refusal number) = 18 ≤ number
Numbered (selected list algorithm es item) = Unit {0}

needs : {A : Type 0} (number : ℕ) (o : Option A) (on : A → Selection) → 18 ≤ number → ((a : A) → Numbered (on a)) → Numbered (need number o on)
needs number Opt.none on h k = h
needs number (some a) on h k = k a

tests : (b : Bool) (number : ℕ) (s : Selection) → 18 ≤ number → Numbered s → Numbered (if b then refusal number else s)
tests true number s h k = h
tests false number s h k = k

parameters-numbered : (uid d : List ℕ) (es item parameters : Elements) → Numbered (parameters_select uid d es item parameters)
unfolding parameters_select
parameters-numbered uid d es item parameters =
    tests (bad_transfer_syntax uid (value_of UI (element_of mac_calculation_transfer_syntax_uid parameters) d)) 21 _ (omega arith)
    (needs 22 (algorithm_of (value_of CS (element_of mac_algorithm parameters) d)) listed (omega arith) λ algorithm.
    needs 23 (value_of AT (element_of data_elements_signed parameters) d) (λ list. selected list algorithm es item) (omega arith) λ list. tt)
  where
    listed : Algorithm → Selection
    listed algorithm = need 23 (value_of AT (element_of data_elements_signed parameters) d) λ list. selected list algorithm es item

pub select-numbered : (uid : List ℕ) (which : code.Option ℕ) (whole : Elements) (d : List ℕ) (es : Elements) → Numbered (select_in uid which whole d es)
unfolding select_in
select-numbered uid which whole d es =
    needs 18 (signature_item which es) _ (omega arith) λ item.
    needs 19 (mac_id_of item d) (λ id. need 20 (parameters_item id es d) (parameters_select uid d es item)) (omega arith) λ id.
    needs 20 (parameters_item id es d) (parameters_select uid d es item) (omega arith) (parameters-numbered uid d es item)

pub selected-number : (uid : List ℕ) (which : code.Option ℕ) (es : Elements) (d : List ℕ) (k : ℕ) → select uid which es d ≡ refusal k → k ≢ 0
selected-number uid which es d k e z = let n : Numbered (refusal k) = rw e at (select-numbered uid which es d es) in omega arith
