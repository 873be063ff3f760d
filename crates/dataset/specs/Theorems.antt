-- What is true of the reading: statements that a reader of the definitions would ask for, proved together in proofs/Theorems.antt. Assumes
-- nothing.
use Rattle.std.specs.Prelude.{ℕ, ◌+◌, ◌-◌, ◌%◌, ◌≤◌, ◌<◌, ◌≡◌, Bool, true, false, List, length, take}
use Rattle.answer.specs.declared.Answer.{Answer}
use Rattle.slices.specs.Lists.{OfBytes}
use Rattle.dataset.specs.Header.{element_at}
use Rattle.dataset.specs.Tree.{Elements}
use Rattle.dataset.specs.Reading.{fault, read, explicit, Unfolds, fragments_by, elements_by, items_by, elements_at, items_at, fragments_at, one_at, size_limit, levels, data_set, answer_of, WellFormed}
use Rattle.dataset.specs.Lookup.{found}
use Rattle.dataset.specs.declared.lookup.Found.{Found}
use Rattle.dataset.specs.Order.{ElementsFill}

-- A well-formed data set has even length.
abbrev pub EvenLength : Type 0
EvenLength = (d : List ℕ) → WellFormed d → length d % 2 ≡ 0

-- a number from `lowest` to 8, an offset from `from` to `up_to`, and length 0
pub record Refusal (lowest from up_to : ℕ) (f : Answer) : Type 0 where
  pub from_lowest : lowest ≤ f.number
  pub up_to8 : f.number ≤ 8
  pub after : from ≤ f.position
  pub inside : f.position ≤ up_to
  pub no_length : f.length ≡ 0

-- A refusal of the reading has one of the numbers 1 to 8 and an offset that is at most the data's length.
abbrev pub FaultsInside : Type 0
FaultsInside = (d : List ℕ) (f : Answer) → data_set d ≡ fault f → Refusal 1 0 (length d) f

-- In an extent inside the data, a refusal of what is read there, as one element, as elements, as items or as fragments, has one of the
-- numbers 2 to 8 and an offset in the extent, or at its end.
pub record FaultsIn (d : List ℕ) (delimited : Bool) (left stop at : ℕ) : Type 0 where
  pub one : (least : ℕ) (f : Answer) → one_at explicit d delimited left stop at least ≡ fault f → Refusal 2 at stop f
  pub elements : (least : ℕ) (f : Answer) → elements_at explicit d delimited left stop at least ≡ fault f → Refusal 2 at stop f
  pub items : (f : Answer) → items_at explicit d delimited left stop at ≡ fault f → Refusal 2 at stop f
  pub fragments : (f : Answer) → fragments_at explicit d left stop at ≡ fault f → Refusal 2 at stop f

abbrev pub FaultsInExtents : Type 0
FaultsInExtents = (d : List ℕ) (delimited : Bool) (left stop at : ℕ) → at ≤ stop → stop ≤ length d → FaultsIn d delimited left stop at

-- The elements of the tree fill the data set, so that `next` is its length: they lie in order, each part in the extent of what holds it,
-- with ascending tags, and sequences at levels 0 to 15.
abbrev pub InOrder : Type 0
InOrder = (d : List ℕ) (es : Elements) (next : ℕ) → data_set d ≡ read es next → ElementsFill es d false levels (length d) 0 0 next

-- And what fills a data set within the size is what is read: a data set is accepted exactly when a tree fills it, and only one does. (In
-- a list with numbers that are no bytes, an item delimiter could stand without group FFFE.)
abbrev pub FilledIsRead : Type 0
FilledIsRead =
    (d : List ℕ) (es : Elements) (next : ℕ) → OfBytes d → length d ≤ size_limit → ElementsFill es d false levels (length d) 0 0 next
    → data_set d ≡ read es next

-- "Of several faults the leftmost is given." (2.20): what stands behind the header that a fault speaks of, which has at most 12 bytes, does not
-- change it.
abbrev pub FirstFault : Type 0
FirstFault =
    (d e : List ℕ) (f : Answer) → data_set d ≡ fault f → length e ≡ length d → take (f.position + 12) e ≡ take (f.position + 12) d
    → data_set e ≡ fault f

-- The fuel that the definitions start with is enough: any number above the bytes that are left gives the same reading.
pub record Enough (n : ℕ) (d : List ℕ) (delimited : Bool) (left stop at : ℕ) : Type 0 where
  pub elements : (least : ℕ) → elements_by explicit n d delimited left stop at least ≡ elements_at explicit d delimited left stop at least
  pub items : items_by explicit n d delimited left stop at ≡ items_at explicit d delimited left stop at
  pub fragments : fragments_by explicit n d left stop at ≡ fragments_at explicit d left stop at

abbrev pub FuelSuffices : Type 0
FuelSuffices = (n : ℕ) (d : List ℕ) (delimited : Bool) (left stop at : ℕ) → at ≤ stop → stop - at < n → Enough n d delimited left stop at

-- A caller's levels above 16 count as 16, for a header and for a whole element: no call goes deeper than the reading of a data set does.
pub record AsAtTheTop (d : List ℕ) (delimited : Bool) (left stop at least : ℕ) : Type 0 where
  pub header : element_at d delimited left stop at least ≡ element_at d delimited levels stop at least
  pub one : one_at explicit d delimited left stop at least ≡ one_at explicit d delimited levels stop at least

abbrev pub LevelsCount : Type 0
LevelsCount = (d : List ℕ) (delimited : Bool) (left stop at least : ℕ) → levels ≤ left → AsAtTheTop d delimited left stop at least

-- What the lookup finds lies in the data set. Its answer is the reading's. The tag stands only in a well-formed data set; where it does not
-- stand, the part is the empty one at the end.
pub record FoundInside (d : List ℕ) (f : Found) : Type 0 where
  pub inside : f.start + f.length ≤ length d
  pub answered : f.answer ≡ answer_of (data_set d)
  pub stands : f.present ≡ true → WellFormed d
  pub otherwise : f.present ≡ false → (f.start ≡ length d) × (f.length ≡ 0)

abbrev pub ValueInside : Type 0
ValueInside = (d : List ℕ) (tag : ℕ) → FoundInside d (found d tag)

-- all of them
pub record Theorems : Type 0 where
  pub even-length : EvenLength
  pub faults-inside : FaultsInside
  pub faults-in-extents : FaultsInExtents
  pub in_order : InOrder
  pub filled-is-read : FilledIsRead
  pub first-fault : FirstFault
  pub fuel-suffices : FuelSuffices
  pub unfolds : Unfolds
  pub levels-count : LevelsCount
  pub value-inside : ValueInside
