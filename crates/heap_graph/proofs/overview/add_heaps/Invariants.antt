use Rattle.heap_graph.proofs.Common.{◌≡◌, ◌++◌, length, flat_map, dot, lines_of, line_meaning, heap_by}
use Rattle.heap_graph.proofs.overview.add_heaps.Given as goal

abbrev pub invariant-loop-said : goal.invariant-loop-said
invariant-loop-said l =
    l.graph.items ++ flat_map dot (flat_map (λ x. heap_by l.read l.heaps l.path (line_meaning x)) (lines_of l.rest))
    ≡ l.fn.graph.items ++ flat_map dot (flat_map (λ x. heap_by l.read l.heaps l.path (line_meaning x)) (lines_of l.text))

abbrev pub decreases-loop-said : goal.decreases-loop-said
decreases-loop-said l = length l.rest
