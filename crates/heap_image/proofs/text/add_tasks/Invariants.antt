use Rattle.heap_image.proofs.Common.{◌≡◌, ◌++◌, take, flat_map, task_line}
use Rattle.heap_image.proofs.text.add_tasks.Given as goal

abbrev pub invariant-loop-task : goal.invariant-loop-task
invariant-loop-task l = l.text.items ≡ l.fn.text.items ++ flat_map task_line (take l.task-index l.tasks)
