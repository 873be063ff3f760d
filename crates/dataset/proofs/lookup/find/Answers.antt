use Rattle.answer.proofs.Laws.Steps.{value-is}
use Rattle.dataset.proofs.Laws.Lookup.FindLoop as steps
use Rattle.dataset.proofs.Laws.Reading.Loops.{size-passed}
use Rattle.dataset.proofs.lookup.find.Goals as goal

pub returns-in-Err : goal.returns-in-Err
returns-in-Err c = search steps.find-over

pub loop-fault-init : goal.loop-fault-init
loop-fault-init c = search steps.find-start

pub returns-in-Err-read_one : goal.returns-in-Err-read_one
returns-in-Err-read_one c = search (steps.find-refused, size-passed)

pub returns-in-Ok-End : goal.returns-in-Ok-End
returns-in-Ok-End c = let q = value-is _ _ _ c.in-Ok-End.is c.in-Ok-End.field-0-is in search (steps.find-end, size-passed)

pub loop-fault-smaller : goal.loop-fault-smaller
loop-fault-smaller c = let q = value-is _ _ _ c.in-Ok-Element.is c.in-Ok-Element.field-0-is in search steps.find-less

pub loop-fault-preserved : goal.loop-fault-preserved
loop-fault-preserved c = let q = value-is _ _ _ c.in-Ok-Element.is c.in-Ok-Element.field-0-is in search steps.find-again
