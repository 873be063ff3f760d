-- `or_here` meets its contract: each place by its law in SeekLoop. Assumes nothing.
use Rattle.dataset.proofs.Laws.Seek.SeekLoop as steps
use Rattle.dataset.proofs.seek.or_here.Goals as goal

pub returns-then-here-tag : goal.returns-then-here-tag
returns-then-here-tag c = search steps.here-other

pub returns-then-is_there : goal.returns-then-is_there
returns-then-is_there c = search steps.here-there

pub returns : goal.returns
returns c = search steps.here-first
