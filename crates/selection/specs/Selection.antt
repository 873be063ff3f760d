-- Which signature item, parameters item, algorithm and list signature mode takes: docs/RULES.md, 8.1 to 8.3; 18 to 23 (9.3). The
-- definitions are over the elements of a data set: those of the whole, or of an item, which "is again a data set" (2.2).
-- Assumes nothing.
use Rattle.std.specs.Prelude.{ℕ, ◌+◌, ◌-◌, Bool, true, false, not, ◌&&◌, ◌||◌, List, [], ◌∷◌, ◌++◌, None, Some, eqb, length, take, drop, get_or, if◌then◌else◌}
use Rattle.std.specs.Prelude as code
use Rattle.std.proofs.Math.Option.{Option, some}
use Rattle.std.proofs.Math.Option as Opt
use Rattle.slices.specs.Lists.{between, same_bytes, all_are}
use Rattle.dataset.specs.Tags.{mac_id_number, mac_calculation_transfer_syntax_uid, mac_algorithm, data_elements_signed, mac_parameters_sequence, digital_signatures_sequence}
use Rattle.dataset.specs.Vr.{AT, CS, UI, US}
use Rattle.dataset.specs.Tree.{Element, Elements, Items}
use Rattle.dataset.specs.Lookup.{element_of}

-- ---- items and values

-- the items of an element "with VR SQ" (18, 20)
abbrev pub items_of : Option Element → Option Items
items_of Opt.none = Opt.none
items_of (some (Element.value at tag vr span)) = Opt.none
items_of (some (Element.sequence at tag span items)) = some items
items_of (some (Element.fragments at tag span parts)) = Opt.none

-- the bytes of an element's value, where it has this VR (which is not SQ, nor OB)
unfoldable pub value_of : (vr : ℕ) → Option Element → List ℕ → Option (List ℕ)
value_of vr Opt.none d = Opt.none
value_of vr (some (Element.value at tag here span)) d = if eqb here vr then some (between d span.start span.end) else Opt.none
value_of vr (some (Element.sequence at tag span items)) d = Opt.none
value_of vr (some (Element.fragments at tag span parts)) d = Opt.none

-- the first item that passes a test of its index (that of the first item here is `index`) and of its elements
unfoldable pub first_item : (test : ℕ → Elements → Bool) (index : ℕ) → Items → Option Elements
first_item test index Items.last = Opt.none
first_item test index (Items.item at elements rest) = if test index elements then some elements else first_item test (index + 1) rest

-- the same of an element's items, counted from 0; none where there are no items
abbrev pub item_where : (test : ℕ → Elements → Bool) → Option Items → Option Elements
item_where test Opt.none = Opt.none
item_where test (some items) = first_item test 0 items

-- ---- the signature item (a term of RULES 8.2: an item of the Digital Signatures Sequence)

-- 8.2: "the item with the signature's number in the top level's (FFFA,FFFA)"; 8.1: "signatures are counted from 0."
abbrev pub item_numbered : (number : ℕ) → Elements → Option Elements
item_numbered number es = item_where (λ index item. eqb index number) (items_of (element_of digital_signatures_sequence es))

-- by the caller's choice: none is named, or its number from 0. 8.1: "Where no number is given, 0 is taken." 18: "there is no (FFFA,FFFA) with
-- VR SQ, or it has no item with the signature's number" (9.3)
unfoldable pub signature_item : (which : code.Option ℕ) → Elements → Option Elements
signature_item None es = item_numbered 0 es
signature_item (Some number) es = item_numbered number es

-- ---- the parameters item (a term of RULES 8.2: an item of the MAC Parameters Sequence)

-- "length 2" (19, 20)
abbrev pub two_bytes : Option (List ℕ) → Option (List ℕ)
two_bytes Opt.none = Opt.none
two_bytes (some value) = if eqb (length value) 2 then some value else Opt.none

-- an item's MAC ID Number. 19: "the signature item has no (0400,0005) with VR US and length 2" (9.3); an item of (4FFE,0001) has its number
-- "with VR US and length 2" too (20)
unfoldable pub mac_id_of : Elements → List ℕ → Option (List ℕ)
mac_id_of item d = two_bytes (value_of US (element_of mac_id_number item) d)

-- the item's number is id; an item that has none is passed over
abbrev pub is_id : (id : List ℕ) → Option (List ℕ) → Bool
is_id id Opt.none = false
is_id id (some other) = same_bytes other id

-- 8.2: "the first in (4FFE,0001) whose MAC ID Number, (0400,0005), equals the signature item's". 20: "there is no (4FFE,0001) with VR SQ,
-- or none of its items has the signature item's MAC ID Number in a (0400,0005) with VR US and length 2" (9.3)
unfoldable pub parameters_item : (id : List ℕ) → Elements → List ℕ → Option Elements
parameters_item id es d = item_where (λ index item. is_id id (mac_id_of item d)) (items_of (element_of mac_parameters_sequence es))

-- ---- the transfer syntax, 21

-- "1.2.840.10008.1.2" and "1.2.840.10008.1.2.2" in ISO 646: Implicit VR Little Endian and Explicit VR Big Endian
abbrev pub implicit_vr_little_endian : List ℕ
implicit_vr_little_endian =
    0x31 ∷ 0x2E ∷ 0x32 ∷ 0x2E ∷ 0x38 ∷ 0x34 ∷ 0x30 ∷ 0x2E ∷ 0x31 ∷ 0x30 ∷ 0x30 ∷ 0x30 ∷ 0x38 ∷ 0x2E ∷ 0x31 ∷ 0x2E ∷ 0x32 ∷ []

abbrev pub explicit_vr_big_endian : List ℕ
explicit_vr_big_endian = implicit_vr_little_endian ++ 0x2E ∷ 0x32 ∷ []

-- 21: "less one NUL where it ends in one" (the default 1 is not NUL: an empty value ends in none)
unfoldable pub less_nul : List ℕ → List ℕ
less_nul value = if eqb (get_or value (length value - 1) 1) 0 then take (length value - 1) value else value

-- 21: "(0400,0010) is absent, is not UI or is empty; or its value, less one NUL where it ends in one, is not the caller's UID as it was
-- given, or is 1.2.840.10008.1.2 or 1.2.840.10008.1.2.2" (9.3)
unfoldable pub bad_transfer_syntax : (uid : List ℕ) → Option (List ℕ) → Bool
bad_transfer_syntax uid Opt.none = true
bad_transfer_syntax uid (some value) =
    eqb (length value) 0
    || (not (same_bytes (less_nul value) uid)
    || (same_bytes (less_nul value) implicit_vr_little_endian
    || same_bytes (less_nul value) explicit_vr_big_endian))

-- ---- the algorithm, 22

-- the algorithms that a signature may name (22)
pub data Algorithm : Type 0 where
  of_sha256 : Algorithm

-- "SHA256"
abbrev pub SHA256 : List ℕ
SHA256 = 0x53 ∷ 0x48 ∷ 0x41 ∷ 0x32 ∷ 0x35 ∷ 0x36 ∷ []

-- a Defined Term, "spaces at its end aside" (22): its bytes, and after them spaces alone (leading spaces are not ignored)
unfoldable pub is_term : (term value : List ℕ) → Bool
is_term term value = same_bytes (take (length term) value) term && all_are 0x20 (drop (length term) value)

-- the algorithm of a value, or none. 22: "(0400,0015) is absent, is not CS, or is not SHA256, spaces at its end aside" (9.3)
unfoldable pub algorithm_of : Option (List ℕ) → Option Algorithm
algorithm_of Opt.none = Opt.none
algorithm_of (some value) = if is_term SHA256 value then some Algorithm.of_sha256 else Opt.none

-- ---- the selection, 18 to 23

-- what it gives: the number of a refusal; or the list (8.3: "The list is the value of (0400,0020) of the parameters item."), the algorithm,
-- the elements of the data set that is signed, and those of the signature item
pub data Selection : Type 0 where
  refusal : (number : ℕ) → Selection
  selected : (list : List ℕ) (algorithm : Algorithm) (elements item : Elements) → Selection

-- what is needed next, or the number that is given where it is not there
abbrev pub need : {A : Type 0} → (number : ℕ) → Option A → (A → Selection) → Selection
need number Opt.none on = refusal number
need number (some a) on = on a

-- 8.3: "The numbers 21 to 23 are about this same item." 23: "(0400,0020) is absent or is not AT" (9.3). `item` is the signature item, of a
-- data set whose elements are es.
unfoldable pub parameters_select : (uid d : List ℕ) (es item parameters : Elements) → Selection
parameters_select uid d es item parameters =
    if bad_transfer_syntax uid (value_of UI (element_of mac_calculation_transfer_syntax_uid parameters) d) then refusal 21 else
    need 22 (algorithm_of (value_of CS (element_of mac_algorithm parameters) d)) λ algorithm.
    need 23 (value_of AT (element_of data_elements_signed parameters) d) λ list.
    selected list algorithm es item

-- "18 to 23" (9.5), in a data set whose elements are es, of a whole data set whose elements are `whole`. In every call the two are the same data
-- set (`select`), and nothing here reads `whole`.
unfoldable pub select_in : (uid : List ℕ) (which : code.Option ℕ) (whole : Elements) (d : List ℕ) (es : Elements) → Selection
select_in uid which whole d es =
    need 18 (signature_item which es) λ item.
    need 19 (mac_id_of item d) λ id.
    need 20 (parameters_item id es d) λ parameters.
    parameters_select uid d es item parameters

-- what a call selects, in the whole data set. 8.2: "in the top level's (FFFA,FFFA)"
abbrev pub select : (uid : List ℕ) (which : code.Option ℕ) (whole : Elements) (d : List ℕ) → Selection
select uid which whole d = select_in uid which whole d whole
