use Rattle.mac_frame.proofs.Laws.Frame.FrameTests as steps
use Rattle.mac_frame.proofs.frame.frame_of.Goals as goal

pub returns-then-n-gt-INPUT_LIMIT : goal.returns-then-n-gt-INPUT_LIMIT
returns-then-n-gt-INPUT_LIMIT c = search steps.too_long

pub returns-then-n-lt5 : goal.returns-then-n-lt5
returns-then-n-lt5 c = search steps.too_short

pub returns-then-s-ne1 : goal.returns-then-s-ne1
returns-then-s-ne1 c = search steps.other-version

pub returns-then-n-list : goal.returns-then-n-list
returns-then-n-list c = search steps.list-past

pub returns-then-n-list-2 : goal.returns-then-n-list-2
returns-then-n-list-2 c = search steps.not-filled

pub returns : goal.returns
returns c =
    steps.filled _ c.if-n-gt-INPUT_LIMIT.false c.if-n-lt5.false c.if-s-ne1.false _ c.big32-list.ensures
    c.if-n-list.false _ c.big32-set.ensures c.if-n-list-2.false
