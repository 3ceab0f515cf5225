use Rattle.heap_graph.proofs.Common.{on_ok_weaker, path_to, chunk_box}
use Rattle.heap_graph.proofs.Drawn.{boxed_along}
use Rattle.heap_graph.proofs.draw.add_chunk.Goals as goal

pub returns : goal.returns
returns c = λ ss e.
    on_ok_weaker c.end_boxes.result
    (boxed_along (path_to c.args.read.now.tasks c.args.chunk.now.owner) (chunk_box c.args.chunk.now ss) c.in_ok-way.way.items c.as_slice.result.now c.as_slice-2.result.now c.args.text.now.items
    c.begin_boxes.new.text.items c.add_chunk_box.new.text.items c.end_boxes.new.text.items
    c.in_ok-way.ensures c.as_slice.ensures.value c.as_slice-2.ensures.value c.in_ok-begin_boxes.ensures (c.in_ok-add_chunk_box.ensures ss e))
    c.end_boxes.ensures
