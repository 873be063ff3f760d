-- `barred_answer` meets its contract: what is left of the list decides. Assumes nothing.
use Rattle.std.specs.Prelude.{◌≡◌, ◌*◌, drop}
use Rattle.stream.specs.TagList.{tags_in, unbarred_answer}
use Rattle.stream.proofs.tag_list.barred_answer.Given as goal

abbrev pub invariant-loop-index : goal.invariant-loop-index
invariant-loop-index l = unbarred_answer 0 (tags_in l.list) ≡ unbarred_answer l.index (tags_in (drop (4 * l.index) l.list))
