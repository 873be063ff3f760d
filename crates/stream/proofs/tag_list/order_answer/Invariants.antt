-- `order_answer` meets its contract: what is left of the list decides. Assumes nothing.
use Rattle.std.specs.Prelude.{◌≡◌, ◌*◌, drop}
use Rattle.stream.specs.TagList.{tags_in, ascending_answer}
use Rattle.stream.proofs.tag_list.order_answer.Given as goal

abbrev pub invariant-loop-index : goal.invariant-loop-index
invariant-loop-index l = ascending_answer 0 0 (tags_in l.list) ≡ ascending_answer l.index l.least (tags_in (drop (4 * l.index) l.list))
