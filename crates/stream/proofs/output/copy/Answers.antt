-- `copy` meets its contract: a part of a data set is what is copied. Assumes nothing.
use Rattle.std.proofs.Common.{rules}
use Rattle.slices.specs.Lists.{between}
use Rattle.stream.proofs.output.copy.Goals as goal

pub returns : goal.returns
unfolding between
returns c = search rules
