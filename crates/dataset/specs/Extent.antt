-- Where a data set or the items of a sequence lie, what is read there, and where the data set of one item lies. `Extent` is the struct of
-- src/extent.rt: from `from` up to `stop`, the end of the extent of RULES 2.10, or to a delimiter before it (`delimited`); `left` levels of
-- sequences may follow.
-- Assumes nothing.
use Rattle.std.specs.Prelude.{ℕ, true, false, List, Result, Ok, Err, if◌then◌else◌}
use Rattle.answer.specs.declared.Answer.{Answer}
use Rattle.answer.specs.Answer.{accepted}
use Rattle.dataset.specs.Header.{ItemHeader, fault_at, outside, item_at}
use Rattle.dataset.specs.Tree.{Elements, Items}
use Rattle.dataset.specs.Reading.{Reading, explicit, elements_at, items_at, levels, deeper}
use Rattle.dataset.specs.declared.extent.Extent.{Extent}
use Rattle.dataset.specs.declared.extent.OpenedItem as item_enum
use Rattle.dataset.specs.declared.extent.OpenedItem.TheVariants as opened

-- the data set in an extent, and the items in one
abbrev pub elements_in : List ℕ → Extent → Reading Elements
elements_in d x = elements_at explicit d x.delimited x.left x.stop x.from 0

abbrev pub items_in : List ℕ → Extent → Reading Items
items_in d x = items_at explicit d x.delimited x.left x.stop x.from

-- 2.10: "or else the whole data set"
abbrev pub whole_of : (size : ℕ) → Extent
whole_of size = record { delimited = false; left = levels; stop = size; from = 0 }

-- Of no rule (docs/DECISIONS.md, R11): an extent that does not lie inside the data has too few bytes, 2 at its start
unfoldable pub outside_answer : List ℕ → Extent → Answer
outside_answer d x = if outside d x.stop x.from then fault_at 2 x.from else accepted 0

-- In an item's place: a refusal; the end of the items, with the offset of what follows them; or an item, by the extent of its data set.
pub data OpenedItem : Type 0 where
  refused : Answer → OpenedItem
  ends : (next : ℕ) → OpenedItem
  item : (inside : Extent) → OpenedItem

-- "those in the items of a sequence at level n are at level n + 1" (2.3): an item of a sequence with `left` levels, by its header
abbrev pub opened_by : (left : ℕ) → ItemHeader → OpenedItem
opened_by left (ItemHeader.refused a) = OpenedItem.refused a
opened_by left (ItemHeader.ends next) = OpenedItem.ends next
opened_by left (ItemHeader.item start end delimited) = OpenedItem.item (record { delimited = delimited; left = deeper left; stop = end; from = start })

-- what stands at `at` in an item's place, among items that lie in x: 2.12 to 2.16
unfoldable pub opened_item : List ℕ → Extent → (at : ℕ) → OpenedItem
opened_item d x at = opened_by x.left (item_at d true x.delimited x.stop at)

-- what `open_item` gives (src/extent.rt), by its values (13.2): a refusal, or a case of its enum
abbrev pub opened_case : Result item_enum.OpenedItem Answer → OpenedItem
opened_case (Err a) = OpenedItem.refused a
opened_case (Ok (opened.End next)) = OpenedItem.ends next
opened_case (Ok (opened.Item inside)) = OpenedItem.item inside
