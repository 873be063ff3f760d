-- The checks at one header, in the written order: RULES, 2.10 to 2.18. Assumes nothing.
--
-- at         the offset of the header
-- stop       the end of the extent (2.10; docs/DECISIONS.md, R1)
-- delimited  whether a delimiter ends what the header stands in: its 8 bytes then end at `stop` or before it; otherwise the length is
--            defined, and the extent is filled up to `stop`
-- start      the offset past the header: of the value, the items, the elements or the fragment's bytes
-- left       how many levels of sequences may follow: 16 less the level (2.3); more than 16 count as 16 (`deeper` of Reading.antt)
-- least      one more than the tag before in the same data set, or 0 where there is none
use Rattle.std.specs.Prelude.{ℕ, ◌+◌, ◌-◌, ◌%◌, Bool, true, false, not, ◌&&◌, ◌||◌, List, Result, Ok, Err, length, ltb, eqb, if◌then◌else◌}
use Rattle.answer.specs.declared.Answer.{Answer}
use Rattle.answer.specs.Answer as answer
use Rattle.dataset.specs.Bytes.{num16, num32, tag_at, vr_at}
use Rattle.dataset.specs.Tags.{item_tag, item_delimitation_item, sequence_delimitation_item}
use Rattle.dataset.specs.Vr.{form_of, OB, SQ}
use Rattle.dataset.specs.declared.vr.Form.{Form}
use Rattle.dataset.specs.declared.vr.Form.TheVariants.{Short, Long, Neither}
use Rattle.dataset.specs.declared.header.ElementHeader as element_enum
use Rattle.dataset.specs.declared.header.ElementHeader.TheVariants as element_header
use Rattle.dataset.specs.declared.header.ItemHeader as item_enum
use Rattle.dataset.specs.declared.header.ItemHeader.TheVariants as item_header

-- ---- what stands at a place

-- In an element's place: a refusal, whose position "is the offset of the header at which it is found" (2.20); the end of the data set, with the offset of what follows it; a value that is not looked into; items, up to `end` or to a sequence delimiter before
-- it (`delimited`); or fragments, up to a sequence delimiter.
pub data ElementHeader : Type 0 where
  refused : Answer → ElementHeader
  ends : (next : ℕ) → ElementHeader
  value : (tag vr start end : ℕ) → ElementHeader
  sequence : (tag start end : ℕ) (delimited : Bool) → ElementHeader
  fragments : (tag start : ℕ) → ElementHeader

-- In the place of an item or a fragment: a refusal; the end of the items or fragments, with the offset of what follows them; or one of them,
-- up to `end` or to an item delimiter before it (`delimited`).
pub data ItemHeader : Type 0 where
  refused : Answer → ItemHeader
  ends : (next : ℕ) → ItemHeader
  item : (start end : ℕ) (delimited : Bool) → ItemHeader

-- what the code's two functions give (src/header.rt), by its values (13.2): a refusal, or a case of their enums
abbrev pub element_case : Result element_enum.ElementHeader Answer → ElementHeader
element_case (Err a) = ElementHeader.refused a
element_case (Ok (element_header.End next)) = ElementHeader.ends next
element_case (Ok (element_header.Value tag vr start end)) = ElementHeader.value tag vr start end
element_case (Ok (element_header.Sequence tag start end delimited)) = ElementHeader.sequence tag start end delimited
element_case (Ok (element_header.Fragments tag start)) = ElementHeader.fragments tag start

abbrev pub item_case : Result item_enum.ItemHeader Answer → ItemHeader
item_case (Err a) = ItemHeader.refused a
item_case (Ok (item_header.End next)) = ItemHeader.ends next
item_case (Ok (item_header.Item start end delimited)) = ItemHeader.item start end delimited

-- The fault of a refused header, with "the offset of the header at which it is found" (2.20): every fault of the reading but 1 is this one.
abbrev pub fault_at : (number position : ℕ) → Answer
fault_at number position = answer.refused number position

-- ---- what the headers share

-- "The length FFFFFFFF is undefined." (2.8)
abbrev pub undefined : ℕ
undefined = 0xFFFFFFFF

-- Of no rule (docs/DECISIONS.md, R11): an extent that ends before `at`, or does not lie inside the data, has too few bytes. The reading
-- never asks this.
abbrev pub outside : List ℕ → (stop at : ℕ) → Bool
outside d stop at = ltb (length d) stop || ltb stop at

-- "Its elements take up all of it and no more." (2.13): an extent of defined length ends at `at` (docs/DECISIONS.md, R2)
unfoldable pub ends_at : (delimited : Bool) (stop at : ℕ) → Bool
ends_at delimited stop at = not delimited && eqb at stop

-- the delimiter stands at `at`, "with length 0" (2.14, 2.15, 2.17), in an extent that it ends (`delimited`)
unfoldable pub closed_by : List ℕ → (delimiter : ℕ) (delimited : Bool) (at : ℕ) → Bool
closed_by d delimiter delimited at = delimited && (eqb (tag_at d at) delimiter && eqb (num32 d (at + 4)) 0)

-- ---- an element

-- 2.11g: "the length is undefined and the VR neither SQ nor OB, or the length is defined and odd"
unfoldable pub bad_length : (vr len : ℕ) → Bool
bad_length vr len = if eqb len undefined then not (eqb vr SQ || eqb vr OB) else eqb (len % 2) 1

-- 2.11h: "it is an SQ at level 16"
unfoldable pub too_deep : (vr left : ℕ) → Bool
too_deep vr left = eqb vr SQ && eqb left 0

-- An undefined length. SQ: its items, up to a sequence delimiter inside the extent. Otherwise OB (`bad_length` lets no other VR pass): its
-- fragments, likewise. `stop` stands for the end that an undefined length does not set (docs/DECISIONS.md, R1).
unfoldable pub undefined_by : (tag vr stop start : ℕ) → ElementHeader
undefined_by tag vr stop start = if eqb vr SQ then ElementHeader.sequence tag start stop true else ElementHeader.fragments tag start

-- A defined length. SQ: its items, up to `end`. Any other VR: a value that is not looked into.
unfoldable pub defined_by : (tag vr start end : ℕ) → ElementHeader
defined_by tag vr start end = if eqb vr SQ then ElementHeader.sequence tag start end false else ElementHeader.value tag vr start end

-- 2.11g, 2.11h, and 2.11i: "the length is defined, and the value ends past the extent"
unfoldable pub value_by : (tag vr left stop at start len : ℕ) → ElementHeader
value_by tag vr left stop at start len =
    if bad_length vr len then ElementHeader.refused (fault_at 7 at) else
    if too_deep vr left then ElementHeader.refused (fault_at 8 at) else
    if eqb len undefined then undefined_by tag vr stop start else
    if ltb (stop - start) len then ElementHeader.refused (fault_at 2 at) else
    defined_by tag vr start (start + len)

-- 2.11e: "the form is long, and fewer than 12 bytes are left"; 2.11f: "the reserved bytes are not zero"
unfoldable pub long_at : List ℕ → (tag vr left stop at : ℕ) → ElementHeader
long_at d tag vr left stop at =
    if ltb (stop - at) 12 then ElementHeader.refused (fault_at 2 at) else
    if not (eqb (num16 d (at + 6)) 0) then ElementHeader.refused (fault_at 6 at) else
    value_by tag vr left stop at (at + 12) (num32 d (at + 8))

-- 2.11d: "the VR is neither in 2.6 nor in 2.7"
unfoldable pub by_form : Form → List ℕ → (tag vr left stop at : ℕ) → ElementHeader
by_form Short d tag vr left stop at = value_by tag vr left stop at (at + 8) (num16 d (at + 6))
by_form Long d tag vr left stop at = long_at d tag vr left stop at
by_form Neither d tag vr left stop at = ElementHeader.refused (fault_at 5 at)

-- the checks from the VR on, by the VR that stands there
unfoldable pub vr_on_at : List ℕ → (tag left stop at : ℕ) → ElementHeader
vr_on_at d tag left stop at = by_form (form_of (vr_at d at)) d tag (vr_at d at) left stop at

-- What stands at `at` in an element's place, in an extent that ends at `stop`, or before it at an item delimiter (`delimited`).
-- 2.11a: "fewer than 8 bytes are left in the extent"; the delimiter "is tested for right after 2.11a" (2.14); 2.11b: "the group is FFFE";
-- 2.11c: "the tag is not above that of the element before it in the same data set"
unfoldable pub element_at : List ℕ → (delimited : Bool) (left stop at least : ℕ) → ElementHeader
element_at d delimited left stop at least =
    if outside d stop at then ElementHeader.refused (fault_at 2 at) else
    if ends_at delimited stop at then ElementHeader.ends at else
    if ltb (stop - at) 8 then ElementHeader.refused (fault_at 2 at) else
    if closed_by d item_delimitation_item delimited at then ElementHeader.ends (at + 8) else
    if eqb (num16 d at) 0xFFFE then ElementHeader.refused (fault_at 3 at) else
    if ltb (tag_at d at) least then ElementHeader.refused (fault_at 4 at) else
    vr_on_at d (tag_at d at) left stop at

-- ---- an item or a fragment

-- "an odd one gives 7", and one that does not end inside the extent 2 (2.13); "A fragment whose length is undefined or odd gives 7." (2.18):
-- FFFFFFFF is odd. `stop` stands for the end that an undefined length does not set (docs/DECISIONS.md, R1).
unfoldable pub item_by : (in_sequence : Bool) (stop at start len : ℕ) → ItemHeader
item_by in_sequence stop at start len =
    if eqb len undefined && in_sequence then ItemHeader.item start stop true else
    if eqb (len % 2) 1 then ItemHeader.refused (fault_at 7 at) else
    if ltb (stop - start) len then ItemHeader.refused (fault_at 2 at) else
    ItemHeader.item start (start + len) false

-- What stands at `at` in the place of an item of a sequence (`in_sequence`) or of a fragment, in an extent that ends at `stop`, or
-- before it at a sequence delimiter (`delimited`). "Where fewer than 8 are left, it gives 2." (2.12); "every tag but an item's or the due
-- delimiter's gives 3" (2.16)
unfoldable pub item_at : List ℕ → (in_sequence delimited : Bool) (stop at : ℕ) → ItemHeader
item_at d in_sequence delimited stop at =
    if outside d stop at then ItemHeader.refused (fault_at 2 at) else
    if ends_at delimited stop at then ItemHeader.ends at else
    if ltb (stop - at) 8 then ItemHeader.refused (fault_at 2 at) else
    if closed_by d sequence_delimitation_item delimited at then ItemHeader.ends (at + 8) else
    if not (eqb (tag_at d at) item_tag) then ItemHeader.refused (fault_at 3 at) else
    item_by in_sequence stop at (at + 8) (num32 d (at + 4))
