use Rattle.heap_graph.proofs.Common.{◌≡◌, ◌++◌, take, flat_map, opened}
use Rattle.heap_graph.proofs.draw.begin_boxes.Given as goal

abbrev pub invariant-loop-task : goal.invariant-loop-task
invariant-loop-task l = l.text.items ≡ l.fn.text.items ++ flat_map opened (take l.task-index l.way)
