-- The reading of a data set: "Of several faults the leftmost is given." (RULES, 2.20), or the tree of its elements. Assumes nothing.
use Rattle.std.specs.Prelude.{ℕ, zero, suc, ◌+◌, ◌-◌, ◌≤◌, Bool, true, false, List, [], ◌∷◌, ◌≡◌, Result, Ok, Err, length, eqb, ltb, if◌then◌else◌}
use Rattle.std.proofs.Math.Option.{Option, some}
use Rattle.std.proofs.Math.Option as Opt
use Rattle.answer.specs.declared.Answer.{Answer}
use Rattle.answer.specs.Answer as answer
use Rattle.dataset.specs.Header.{ElementHeader, ItemHeader, fault_at, element_at, item_at}
use Rattle.dataset.specs.Tree.{Span, span, Element, value, sequence, fragments, Elements, none, and, Items, last, item, tag_of, vr_of, span_of}
use Rattle.dataset.specs.declared.reading.OneOutcome.{OneOutcome}
use Rattle.dataset.specs.declared.reading.OneOutcome.TheVariants as one

-- what a reading gives: the first fault, or what was read and the offset past it
pub data Reading (A : Type 0) : Type 0 where
  fault : Answer → Reading A
  read : A → (next : ℕ) → Reading A

-- one reading after another: the leftmost fault stands
infixl 10 ◌>>=◌
abbrev pub ◌>>=◌ : {A B : Type 0} → Reading A → (A × ℕ → Reading B) → Reading B
fault f >>= k = fault f
read a next >>= k = k (a, next)

-- what is read in an element's place: the end of the data set, or one element
pub data One : Type 0 where
  ended : One
  element : Element → One

-- The checks at one header, in an element's place and in the place of an item or fragment. The reading is defined over them; only
-- `explicit`, below, is used (docs/DECISIONS.md, R13).
pub record Headers : Type 0 where
  pub element : List ℕ → (delimited : Bool) (left stop at least : ℕ) → ElementHeader
  pub item : List ℕ → (in_sequence delimited : Bool) (stop at : ℕ) → ItemHeader

-- those of Explicit VR Little Endian
abbrev pub explicit : Headers
explicit = record { element = element_at; item = item_at }

-- One element, by its header. Handed in are the readers of its items (`items`) and of its fragments (`parts`). A delimiter that ends them, of
-- 8 bytes, is no part of the value.
unfoldable pub by_header : (items : (delimited : Bool) (stop start : ℕ) → Reading Items) (parts : (start : ℕ) → Reading (List Span)) (at : ℕ)
    → ElementHeader → Reading One
by_header items parts at (ElementHeader.refused a) = fault a
by_header items parts at (ElementHeader.ends next) = read ended next
by_header items parts at (ElementHeader.value tag vr start stop) = read (element (value at tag vr (span start stop))) stop
by_header items parts at (ElementHeader.sequence tag start stop delimited) = do
  (inside, next) ← items delimited stop start
  read (element (sequence at tag (span start (if delimited then next - 8 else next)) inside)) next
by_header items parts at (ElementHeader.fragments tag start) = do
  (inside, next) ← parts start
  read (element (fragments at tag (span start (next - 8)) inside)) next

-- The elements of a data set are one element and the rest. Handed in is the reader of the rest, with the least tag.
unfoldable pub by_one : (elements : (next least : ℕ) → Reading Elements) → One × ℕ → Reading Elements
by_one elements (ended, next) = read none next
by_one elements (element e, next) = do
  (rest, after) ← elements next (tag_of e + 1)
  read (and e rest) after

-- Items are one item and the rest. Handed in are the readers of an item's elements and of the rest.
unfoldable pub by_item : (elements : (delimited : Bool) (stop start : ℕ) → Reading Elements) (items : (next : ℕ) → Reading Items) (at : ℕ)
    → ItemHeader → Reading Items
by_item elements items at (ItemHeader.refused a) = fault a
by_item elements items at (ItemHeader.ends next) = read last next
by_item elements items at (ItemHeader.item start stop delimited) = do
  (inside, next) ← elements delimited stop start
  (rest, after) ← items next
  read (item at inside rest) after

-- Fragments are one fragment and the rest: "Nothing inside a fragment .. is examined." (2.19). Handed in is the reader of the rest.
unfoldable pub by_fragment : (parts : (next : ℕ) → Reading (List Span)) → ItemHeader → Reading (List Span)
by_fragment parts (ItemHeader.refused a) = fault a
by_fragment parts (ItemHeader.ends next) = read [] next
by_fragment parts (ItemHeader.item start stop delimited) = do
  (rest, after) ← parts stop
  read (span start stop ∷ rest) after

-- "A sequence may stand at levels 0 to 15" (2.3), so that at the top 16 levels are left
abbrev pub levels : ℕ
levels = 16

-- How many levels are left in the items of a sequence that stands where `left` are: one less (2.3). More than 16 are left nowhere in a data
-- set; a caller's number above 16 counts as 16 (docs/DECISIONS.md, R16).
unfoldable pub deeper : (left : ℕ) → ℕ
deeper left = (if ltb levels left then levels else left) - 1

module _ (h : Headers) where
  -- The recursion counts down a number (fuel), one for each header on the way. Where it is used up the fault's number is 0, which
  -- `elements_at` and the others below never give in an extent inside the data (`FuelSuffices` and `FaultsIn` of Theorems.antt).
  -- `left` is 16 less the level: of the data set that is read, or at which the sequence or the OB stands. Fragments have no levels below
  -- them: there it only says at which level the OB stands, and nothing is read by it.
  unfoldable pub fragments_by : ℕ → List ℕ → (left stop at : ℕ) → Reading (List Span)
  fragments_by zero d left stop at = fault (fault_at 0 at)
  fragments_by (suc n) d left stop at = by_fragment (fragments_by n d left stop) (h.item d false true stop at)

  -- "those in the items of a sequence at level n are at level n + 1" (2.3); tag order starts anew in each item
  unfoldable mutual
    pub elements_by : ℕ → List ℕ → (delimited : Bool) (left stop at least : ℕ) → Reading Elements
    elements_by zero d delimited left stop at least = fault (fault_at 0 at)
    elements_by (suc n) d delimited left stop at least =
        by_header
        (λ inner end start. items_by n d inner left end start)
        (fragments_by n d left stop)
        at
        (h.element d delimited left stop at least)
        >>= by_one (λ next above. elements_by n d delimited left stop next above)

    pub items_by : ℕ → List ℕ → (delimited : Bool) (left stop at : ℕ) → Reading Items
    items_by zero d delimited left stop at = fault (fault_at 0 at)
    items_by (suc n) d delimited left stop at =
        by_item
        (λ inner end start. elements_by n d inner (deeper left) end start 0)
        (λ next. items_by n d delimited left stop next)
        at
        (h.item d true delimited stop at)

  -- the elements, items and fragments from `at` on, in an extent that ends at `stop`, or before it at a delimiter (`delimited`)
  unfoldable pub elements_at : List ℕ → (delimited : Bool) (left stop at least : ℕ) → Reading Elements
  elements_at d delimited left stop at least = elements_by (suc (stop - at)) d delimited left stop at least

  unfoldable pub items_at : List ℕ → (delimited : Bool) (left stop at : ℕ) → Reading Items
  items_at d delimited left stop at = items_by (suc (stop - at)) d delimited left stop at

  unfoldable pub fragments_at : List ℕ → (left stop at : ℕ) → Reading (List Span)
  fragments_at d left stop at = fragments_by (suc (stop - at)) d left stop at

  -- what is read at `at` in an element's place
  unfoldable pub one_at : List ℕ → (delimited : Bool) (left stop at least : ℕ) → Reading One
  one_at d delimited left stop at least =
      by_header (λ inner. items_at d inner left) (fragments_at d left stop) at (h.element d delimited left stop at least)

-- The same with no fuel in it: in an extent, the elements of a data set are one element and the rest, items are one item, whose elements are
-- a data set one level down, and the rest, and fragments one fragment and the rest. `Unfolds` is proved (a field of `Theorems`, Theorems.antt).
pub record Equations (d : List ℕ) (delimited : Bool) (left stop at : ℕ) : Type 0 where
  pub elements : (least : ℕ)
      → elements_at explicit d delimited left stop at least
      ≡ (one_at explicit d delimited left stop at least >>= by_one (elements_at explicit d delimited left stop))
  pub items :
      items_at explicit d delimited left stop at
      ≡ by_item (λ inner end start. elements_at explicit d inner (deeper left) end start 0) (items_at explicit d delimited left stop) at
      (item_at d true delimited stop at)
  pub fragments : fragments_at explicit d left stop at ≡ by_fragment (fragments_at explicit d left stop) (item_at d false true stop at)

abbrev pub Unfolds : Type 0
Unfolds = (d : List ℕ) (delimited : Bool) (left stop at : ℕ) → at ≤ stop → Equations d delimited left stop at

-- "at most 1,048,576 bytes" (2.1)
abbrev pub size_limit : ℕ
size_limit = 1048576

-- 1: "A data set that is larger than 2.1 allows gives 1, before 2 to 8." (2.21)
unfoldable pub size_answer : List ℕ → Answer
size_answer d = if ltb size_limit (length d) then answer.refused 1 0 else answer.accepted 0

-- a reading behind an answer, whose refusal comes "before 2 to 8" (2.21)
unfoldable pub unless_refused : {A : Type 0} → Answer → Reading A → Reading A
unless_refused a p = if eqb a.number 0 then p else fault a

-- the reading of a whole data set, which "may have none" (2.1)
unfoldable pub data_set : List ℕ → Reading Elements
data_set d = unless_refused (size_answer d) (elements_at explicit d false levels (length d) 0 0)

-- the answer to the caller: the fault, or number 0, with length 0 (docs/DECISIONS.md, A3)
abbrev pub answer_of : {A : Type 0} → Reading A → Answer
answer_of (fault f) = f
answer_of (read a next) = answer.accepted 0

-- the elements of a data set; none where it is refused
abbrev pub tree_of : Reading Elements → Elements
tree_of (fault f) = none
tree_of (read es next) = es

abbrev pub tree : List ℕ → Elements
tree d = tree_of (data_set d)

-- well-formed, a term of RULES: "a data set for which none of the numbers 1 to 8 has its condition met" (2.22): a tree is read
abbrev pub WellFormed : List ℕ → Type 0
WellFormed d = (es : Elements) × (next : ℕ) × (data_set d ≡ read es next)

-- ---- what the reader of one element hands on

-- an element's tag, its VR, and where its value lies
pub record Outline : Type 0 where
  pub tag : ℕ
  pub vr : ℕ
  pub span : Span

-- of a reading: the fault; or none, where the data set ends, or an element's outline; and the offset past it
abbrev pub handed_on : Reading One → Reading (Option Outline)
handed_on (fault f) = fault f
handed_on (read ended next) = read Opt.none next
handed_on (read (element e) next) = read (some (record { tag = tag_of e; vr = vr_of e; span = span_of e })) next

-- what `read_one` gives (src/reading.rt), by its values (13.2): a refusal, or a case of OneOutcome
abbrev pub one_case : Result OneOutcome Answer → Reading (Option Outline)
one_case (Err f) = fault f
one_case (Ok (one.End next)) = read Opt.none next
one_case (Ok (one.Element tag vr start end next)) = read (some (record { tag = tag; vr = vr; span = span start end })) next
