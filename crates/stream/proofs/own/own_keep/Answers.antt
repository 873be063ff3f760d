-- `own_keep` meets its contract. Assumes nothing.
use Rattle.std.proofs.Common.{rules}
use Rattle.stream.specs.Inner.Own.{own_keep}
use Rattle.stream.proofs.own.own_keep.Goals as goal

pub returns-then-is_left_out : goal.returns-then-is_left_out
unfolding own_keep
returns-then-is_left_out c = search rules

pub returns-in-End : goal.returns-in-End
unfolding own_keep
returns-in-End c = search rules

pub returns-else-is_left_out : goal.returns-else-is_left_out
unfolding own_keep
returns-else-is_left_out c = search rules
