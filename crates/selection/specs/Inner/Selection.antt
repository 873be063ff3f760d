-- For inner contracts; no part of what a reader has to believe: the functions of the selection.
-- Assumes nothing.
use Rattle.std.specs.Prelude.{ℕ, ◌≡◌, Bool, List, None, Some, Result, eqb}
use Rattle.std.specs.Prelude as code
use Rattle.std.specs.Borrow.{Bor}
use Rattle.std.proofs.Math.Option.{Option, some}
use Rattle.std.proofs.Math.Option as Opt
use Rattle.answer.specs.declared.Answer.{Answer}
use Rattle.dataset.specs.Vr.{US}
use Rattle.dataset.specs.Tree.{Element, Elements, Items}
use Rattle.dataset.specs.Reading.{Reading, fault, read}
use Rattle.dataset.specs.Lookup.{element_of}
use Rattle.selection.specs.Selection.{items_of, value_of, first_item, item_where, two_bytes, signature_item, mac_id_of, is_id, parameters_select}
use Rattle.dataset.specs.Tags.{mac_id_number, data_elements_signed, digital_signatures_sequence}
use Rattle.selection.specs.Selection as spec
use Rattle.selection.specs.Selected.{algorithm_case, SelectionAs}
use Rattle.dataset.specs.Place.{Placed}
use Rattle.dataset.specs.Extent.{elements_in}
use Rattle.dataset.specs.declared.extent.Extent.{Extent}
use Rattle.dataset.specs.declared.seek.Place.{Place}
use Rattle.selection.specs.declared.items.ItemKey.{ItemKey}
use Rattle.selection.specs.declared.items.ItemKey.TheVariants as key
use Rattle.selection.specs.declared.items.FoundItem.{FoundItem}
use Rattle.selection.specs.declared.select.Algorithm.{Algorithm}
use Rattle.selection.specs.declared.select.Selected.{Selected}

-- ---- the value in a place

-- the bytes that the code has, or none
abbrev pub bytes_of : code.Option (Bor (List ℕ)) → Option (List ℕ)
bytes_of None = Opt.none
bytes_of (Some bytes) = some bytes.now

-- r is the value of this VR that the element at p has, or none
pub record ValueAt (vr : ℕ) (d : List ℕ) (p : Place) (r : code.Option (Bor (List ℕ))) : Type 0 where
  pub says : (o : Option Element) → Placed d o p → bytes_of r ≡ value_of vr o d

-- r is the MAC ID Number at p, or none
pub record MacIdAt (d : List ℕ) (p : Place) (r : code.Option (Bor (List ℕ))) : Type 0 where
  pub says : (o : Option Element) → Placed d o p → bytes_of r ≡ two_bytes (value_of US o d)

-- ---- the item that has a key

abbrev pub has_key : List ℕ → ItemKey → (index : ℕ) → Elements → Bool
has_key d (key.Number n) index es = eqb index n
has_key d (key.MacId id) index es = is_id id.now (mac_id_of es d)

-- the item whose elements are es
pub record ItemFound (d : List ℕ) (es : Elements) (item : FoundItem) : Type 0 where
  pub next : ℕ
  pub reads : elements_in d item.inside ≡ read es next
  pub placed : Placed d (element_of mac_id_number es) item.id
  pub placed' : Placed d (element_of data_elements_signed es) item.list

abbrev pub FoundItemAs : List ℕ → Option Elements → code.Option FoundItem → Type 0
FoundItemAs d Opt.none r = r ≡ None
FoundItemAs d (some es) r = (item : FoundItem) × (r ≡ Some item) × ItemFound d es item

-- of items that are refused nothing is said: none are asked
abbrev pub FoundItemIn : List ℕ → ItemKey → (index : ℕ) → Reading Items → code.Option FoundItem → Type 0
FoundItemIn d w index (fault f) r = Unit {0}
FoundItemIn d w index (read items next) r = FoundItemAs d (first_item (has_key d w) index items) r

-- whether the item es, whose MAC ID Number lies at p, has the key
abbrev pub TestsKey : List ℕ → ItemKey → (index : ℕ) → Place → Bool → Type 0
TestsKey d w index p r = (es : Elements) → Placed d (element_of mac_id_number es) p → r ≡ has_key d w index es

-- the first item with the key, of the element o, which lies at p
pub record FoundItemUnder (d : List ℕ) (p : Place) (w : ItemKey) (r : code.Option FoundItem) : Type 0 where
  pub says : (o : Option Element) → Placed d o p → FoundItemAs d (item_where (has_key d w) (items_of o)) r

-- the signature item, by the caller's choice, of a data set whose (FFFA,FFFA) lies at p
pub record SignatureItemAt (d : List ℕ) (which : code.Option ℕ) (p : Place) (r : code.Option FoundItem) : Type 0 where
  pub says : (es : Elements) → Placed d (element_of digital_signatures_sequence es) p → FoundItemAs d (signature_item which es) r

-- ---- what is selected

-- the code's cases
abbrev pub named_case : Option spec.Algorithm → code.Option Algorithm
named_case Opt.none = None
named_case (some a) = Some (algorithm_case a)

-- by the extents of the data set that is signed and of the signature item, and by the parameters item
pub record ParametersSelected (uid d : List ℕ) (signed item : Extent) (parameters : FoundItem) (r : Result Selected Answer) : Type 0 where
  pub says : (es is ps : Elements) (k n m : ℕ) → elements_in d signed ≡ read es k → elements_in d item ≡ read is n → elements_in d parameters.inside ≡ read ps m
      → Placed d (element_of data_elements_signed ps) parameters.list → SelectionAs d signed (parameters_select uid d es is ps) r
