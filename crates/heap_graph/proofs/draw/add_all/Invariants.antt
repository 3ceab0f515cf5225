use Rattle.heap_graph.proofs.Common.{◌≡◌, ◌++◌, length, flat_map, option_copied, dot, lines_of, all_drawn, optional_lines}
use Rattle.heap_graph.proofs.draw.add_all.Given as goal

abbrev pub invariant-loop-said : goal.invariant-loop-said
invariant-loop-said l =
    l.graph.items ++ flat_map dot (all_drawn l.read l.heaps l.path (optional_lines (option_copied l.objects)) (lines_of l.rest))
    ≡ l.fn.graph.items ++ flat_map dot (all_drawn l.read l.heaps l.path (lines_of l.text) (lines_of l.text))

abbrev pub decreases-loop-said : goal.decreases-loop-said
decreases-loop-said l = length l.rest
