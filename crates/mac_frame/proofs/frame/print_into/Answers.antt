use Rattle.mac_frame.proofs.Laws.Frame.FrameTests as steps
use Rattle.mac_frame.proofs.frame.print_into.Goals as goal

pub report-requires : goal.report-requires
report-requires c = search steps.holds-matched

pub returns-in-None : goal.returns-in-None
returns-in-None c = search steps.printed-bad

pub returns-in-Some : goal.returns-in-Some
returns-in-Some c = search steps.printed-good
