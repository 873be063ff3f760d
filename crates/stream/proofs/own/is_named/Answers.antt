-- `is_named` meets its contract. Assumes nothing.
use Rattle.std.proofs.Common.{arith}
use Rattle.stream.specs.Own.{named}
use Rattle.stream.proofs.own.is_named.Goals as goal

pub returns-in-67109141 : goal.returns-in-67109141
unfolding named
returns-in-67109141 c = grind arith

pub returns-in_default : goal.returns-in_default
unfolding named
returns-in_default c = grind arith
