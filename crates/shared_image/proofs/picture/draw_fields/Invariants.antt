use Rattle.shared_image.proofs.Common.{take, AreAll, RememberedBefore, AreFieldsOf}
use Rattle.shared_image.proofs.picture.draw_fields.Given as goal

abbrev pub invariant-loop-task : goal.invariant-loop-task
invariant-loop-task l = AreAll RememberedBefore (AreFieldsOf l.shared (take l.task-index l.live)) l.fields
