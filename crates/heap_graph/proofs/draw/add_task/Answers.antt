use Rattle.heap_graph.proofs.Common.{◌++◌, ap, ◌∙◌, on_ok_weaker, dot, held_of, path_above, path_to, task_box}
use Rattle.heap_graph.proofs.Drawn.{boxed_along}
use Rattle.heap_graph.proofs.draw.add_task.Goals as goal

pub returns : goal.returns
returns c =
    on_ok_weaker c.end_boxes.result
    (boxed_along (path_above (path_to c.args.read.now.tasks) c.args.task.now.parent) (task_box c.args.task.now (held_of c.args.heaps.now c.args.task.now.number)) c.in_ok-way.way.items c.as_slice.result.now c.as_slice-2.result.now c.args.text.now.items
    c.begin_boxes.new.text.items c.add_task_box.new.text.items c.end_boxes.new.text.items
    c.in_ok-way.ensures c.as_slice.ensures.value c.as_slice-2.ensures.value c.in_ok-begin_boxes.ensures
    (c.in_ok-add_task_box.ensures ∙ ap (λ h. c.begin_boxes.new.text.items ++ dot (task_box c.args.task.now h)) c.held_of.ensures))
    c.end_boxes.ensures
