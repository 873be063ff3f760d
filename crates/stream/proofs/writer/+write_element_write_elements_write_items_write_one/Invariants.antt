-- The cycle of calls. Levels fall: 4 left + 3 for the walk over elements, 4 left + 2 and 4 left + 1 for that over one element, 4 left for that
-- over items. Each place is a law of WriteElement, ElementsLoop, BarredLoop or ItemsLoop, which `search` applies to the facts there. Assumes
-- nothing.
use Rattle.std.proofs.Common.{◌+◌, ◌-◌, ◌*◌}
use Rattle.stream.proofs.Laws.Writer.BarredLoop as elements
use Rattle.stream.proofs.Laws.Writer.ItemsLoop as items
use Rattle.stream.proofs.writer.+write_element_write_elements_write_items_write_one.Given as goal

abbrev pub decreases-write_element : goal.decreases-write_element
decreases-write_element l = 4 * l.part.now.x.left + 1

abbrev pub decreases-write_elements : goal.decreases-write_elements
decreases-write_elements l = 4 * l.part.x.left + 3

abbrev pub decreases-write_items : goal.decreases-write_items
decreases-write_items l = 4 * l.part.x.left

abbrev pub decreases-write_one : goal.decreases-write_one
decreases-write_one l = 4 * l.part.now.x.left + 2

abbrev pub invariant-write_elements-loop-next : goal.invariant-write_elements-loop-next
invariant-write_elements-loop-next l =
    elements.ElementsLoop l.part.d.now l.part.x l.initial.out l.onto l.out l.at l.least l.found l.to

abbrev pub decreases-write_elements-loop-next : goal.decreases-write_elements-loop-next
decreases-write_elements-loop-next l = l.part.x.stop - l.at

abbrev pub invariant-write_items-loop-next : goal.invariant-write_items-loop-next
invariant-write_items-loop-next l = items.ItemsLoop l.d l.x l.initial.out l.onto l.out l.at l.found l.to

abbrev pub decreases-write_items-loop-next : goal.decreases-write_items-loop-next
decreases-write_items-loop-next l = l.x.stop - l.at
