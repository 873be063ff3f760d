-- `vr_on` meets its contract: by the form of the VR. Assumes nothing.
use Rattle.dataset.proofs.Laws.Header.Checks as checks
use Rattle.dataset.proofs.header.vr_on.Goals as goal

pub returns-in-Short : goal.returns-in-Short
returns-in-Short c = search checks.short-form

pub returns-in-Long : goal.returns-in-Long
returns-in-Long c = search checks.long-form

pub returns-in-Neither : goal.returns-in-Neither
returns-in-Neither c = search checks.no-form
