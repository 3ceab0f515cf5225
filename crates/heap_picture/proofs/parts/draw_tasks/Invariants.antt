use Rattle.heap_picture.proofs.Common.{◌≡◌, map, take, drawn_task}
use Rattle.heap_picture.proofs.parts.draw_tasks.Given as goal

abbrev pub invariant-loop-task : goal.invariant-loop-task
invariant-loop-task l = l.tasks ≡ map drawn_task (take l.task-index l.live)
