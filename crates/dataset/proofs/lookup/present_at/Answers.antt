-- `present_at` meets its contract. Assumes nothing.
use Rattle.dataset.proofs.Laws.Lookup.FindLoop as steps
use Rattle.dataset.proofs.lookup.present_at.Goals as goal

pub returns : goal.returns
returns c = search steps.present-is
