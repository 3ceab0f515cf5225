use Rattle.heap_graph.proofs.Common.{lines_more, opened}
use Rattle.heap_graph.proofs.draw.begin_boxes.Goals as goal

pub loop-task-preserved : goal.loop-task-preserved
loop-task-preserved c =
    lines_more opened c.args.way.now c.loop-task.task-index 0 c.args.text.now.items c.loop-task.text.items c.begin_box.new.text.items
    c.loop-task-test.true c.loop-task.invariant c.in_ok-begin_box.ensures
