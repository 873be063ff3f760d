-- What signature mode selects: a refusal of 18 to 23, or a list, an algorithm, the data set and the signature item. The stream of this item's
-- elements is no longer than that of (FFFA,FFFA). Assumes nothing.
use Rattle.std.specs.Prelude as code
use Rattle.std.specs.Prelude.{Some, None}
use Rattle.std.proofs.Common.{if◌then◌else◌}
use Prim.Native.Nat.{ℕ, ◌+◌, ◌≤◌}
use mathlib.Core.Path.{◌≡◌, refl}
use mathlib.Core.Bool.{Bool, true, false, true≢false}
use mathlib.Core.List.{List, ◌++◌}
use mathlib.Core.Option.{Option, some}
use mathlib.Core.Option as Opt
use native.Mathlib.Omega.{arith}
use lib.ListN.{length, length-append}
use Rattle.dataset.specs.Vr.{AT, CS, UI}
use Rattle.dataset.specs.Tree.{Element, Elements, Items}
use Rattle.dataset.specs.Lookup.{element_of}
use Rattle.slices.proofs.Laws.Bools.{choose}
use Rattle.stream.specs.Stream.{item_tag_bytes, stream_of, elements_stream, items_stream, found_stream}
use Rattle.selection.specs.Selection.{value_of, items_of, first_item, item_where, signature_item, mac_id_of, parameters_item, bad_transfer_syntax, Algorithm, algorithm_of, Selection, refusal, selected, need, parameters_select, select_in, select}
use Rattle.dataset.specs.Tags.{mac_calculation_transfer_syntax_uid, mac_algorithm, data_elements_signed, digital_signatures_sequence}

-- what holds of every refusal of 18 to 23, and of every list and algorithm with the signature item, holds of what is selected
module _ (P : Selection → Type 0) (refused : (number : ℕ) → 18 ≤ number → number ≤ 23 → P (refusal number)) where
  need-holds : {A : Type 0} → (number : ℕ) → 18 ≤ number → number ≤ 23 → (o : Option A) (on : A → Selection) → ((a : A) → o ≡ some a → P (on a))
      → P (need number o on)
  need-holds number l u Opt.none on k = refused number l u
  need-holds number l u (some a) on k = k a refl

  pub select-holds : (uid : List ℕ) (which : code.Option ℕ) (es : Elements) (d : List ℕ)
      → ((item : Elements) → signature_item which es ≡ some item → (list : List ℕ) (algorithm : Algorithm) → P (selected list algorithm es item)) → P (select uid which es d)
  unfolding select_in parameters_select
  select-holds uid which es d k =
      need-holds 18 (omega arith) (omega arith) (signature_item which es) _ λ item i.
      need-holds 19 (omega arith) (omega arith) (mac_id_of item d) _ λ id e.
      need-holds 20 (omega arith) (omega arith) (parameters_item id es d) _ λ parameters e.
      choose P (bad_transfer_syntax uid (value_of UI (element_of mac_calculation_transfer_syntax_uid parameters) d)) (λ t. refused 21 (omega arith) (omega arith)) λ t.
      need-holds 22 (omega arith) (omega arith) (algorithm_of (value_of CS (element_of mac_algorithm parameters) d)) _ λ algorithm e.
      need-holds 23 (omega arith) (omega arith) (value_of AT (element_of data_elements_signed parameters) d) _ λ list e. k item i list algorithm

-- the stream of an item's elements is no longer than that of the sequence that it stands in
module _ (d : List ℕ) (item : Elements) (test : ℕ → Elements → Bool) where
  item-within : (index : ℕ) (items : Items) → first_item test index items ≡ some item → length (elements_stream item d) ≤ length (items_stream items d)
  unfolding first_item items_stream
  item-within index Items.last e = absurd (true≢false (cc))
  item-within index (Items.item at es rest) e = go (test index es) e (item-within (index + 1) rest)
    where
      go : (b : Bool) → (if b then some es else first_item test (index + 1) rest) ≡ some item
          → (first_item test (index + 1) rest ≡ some item → length (elements_stream item d) ≤ length (items_stream rest d))
          → length (elements_stream item d) ≤ length (item_tag_bytes ++ (elements_stream es d ++ items_stream rest d))
      go true e more = let same : es ≡ item = cc in rw (← same) (simp length-append (omega arith))
      go false e more = let k = more e in simp length-append (omega arith)

  found_within : (o : Option Element) → item_where test (items_of o) ≡ some item → length (elements_stream item d) ≤ length (found_stream o d)
  unfolding stream_of
  found_within Opt.none e = absurd (true≢false (cc))
  found_within (some (Element.value at tag vr span)) e = absurd (true≢false (cc))
  found_within (some (Element.sequence at tag span items)) e = let k = item-within 0 items e in simp length-append (omega arith)
  found_within (some (Element.fragments at tag span parts)) e = absurd (true≢false (cc))

pub item-no-longer : (which : code.Option ℕ) (es : Elements) (d : List ℕ) (item : Elements) → signature_item which es ≡ some item
    → length (elements_stream item d) ≤ length (found_stream (element_of digital_signatures_sequence es) d)
unfolding signature_item
item-no-longer None es d item e = found_within d item _ (element_of digital_signatures_sequence es) e
item-no-longer (Some number) es d item e = found_within d item _ (element_of digital_signatures_sequence es) e
