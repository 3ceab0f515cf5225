use Rattle.heap_graph.proofs.Common.{◌≡◌, ◌++◌, drop, flat_map, dot, is_long, edges_from, edges_of}
use Rattle.heap_graph.proofs.edges.add_edges.Given as goal

abbrev pub invariant-loop-place : goal.invariant-loop-place
invariant-loop-place l =
    l.text.items ++ flat_map dot (edges_from l.read l.task l.object.address (is_long l.object) l.place (drop l.place l.object.references))
    ≡ l.fn.text.items ++ flat_map dot (edges_of l.read l.task l.object)
