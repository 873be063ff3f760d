use Rattle.answer.proofs.Laws.Steps.{value-is}
use Rattle.stream.proofs.Laws.Listed.WalkListLoop as steps
use Rattle.stream.proofs.listed.walk_list.Goals as goal

pub returns-in-Err : goal.returns-in-Err
returns-in-Err c = search steps.list-refused

pub returns-in-Ok-End : goal.returns-in-Ok-End
returns-in-Ok-End c = let q = value-is _ _ _ c.in-Ok-End.is c.in-Ok-End.field-0-is in search steps.list-end

pub loop-fault-smaller : goal.loop-fault-smaller
loop-fault-smaller c = let q = value-is _ _ _ c.in-Ok-Element.is c.in-Ok-Element.field-0-is in search steps.list-less

pub loop-fault-preserved : goal.loop-fault-preserved
loop-fault-preserved c = let q = value-is _ _ _ c.in-Ok-Element.is c.in-Ok-Element.field-0-is in search steps.list-again
