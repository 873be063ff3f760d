-- The cycle of calls. Levels fall: 3 left + 2 for the reader of elements, 3 left + 1 for that of one element, 3 left for that of items.
-- Each place is a law of Loops or OneElement, which `search` applies to the facts there. Assumes nothing.
use Rattle.std.proofs.Common.{◌+◌, ◌-◌, ◌*◌}
use Rattle.dataset.proofs.Laws.Reading.Loops as steps
use Rattle.dataset.proofs.reading.+read_elements_read_items_read_one.Given as goal

abbrev pub decreases-read_elements : goal.decreases-read_elements
decreases-read_elements l = 3 * l.part.x.left + 2

abbrev pub decreases-read_items : goal.decreases-read_items
decreases-read_items l = 3 * l.part.x.left

abbrev pub decreases-read_one : goal.decreases-read_one
decreases-read_one l = 3 * l.x.left + 1

abbrev pub invariant-read_elements-loop-next : goal.invariant-read_elements-loop-next
invariant-read_elements-loop-next l = steps.ElementsLoop l.d l.x.delimited l.x.left l.x.stop l.x.from l.at l.least

abbrev pub decreases-read_elements-loop-next : goal.decreases-read_elements-loop-next
decreases-read_elements-loop-next l = l.x.stop - l.at

abbrev pub invariant-read_items-loop-next : goal.invariant-read_items-loop-next
invariant-read_items-loop-next l = steps.ItemsLoop l.d l.x l.at

abbrev pub decreases-read_items-loop-next : goal.decreases-read_items-loop-next
decreases-read_items-loop-next l = l.x.stop - l.at
