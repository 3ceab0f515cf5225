use Rattle.heap_graph.proofs.Common.{◌≡◌, ◌++◌, flat_map, option_copied, dot, nodes_in, lines_behind, optional_lines}
use Rattle.heap_graph.proofs.Left.{bytes_left}
use Rattle.heap_graph.proofs.draw.add_nodes.Given as goal

abbrev pub invariant-loop-left : goal.invariant-loop-left
invariant-loop-left l =
    record {
      nodes :
          l.text.items ++ flat_map dot (nodes_in l.chunk (optional_lines (option_copied l.left)))
          ≡ l.fn.text.items ++ flat_map dot (nodes_in l.chunk (optional_lines (option_copied l.objects)));
      left : lines_behind l.chunk (optional_lines (option_copied l.left)) ≡ lines_behind l.chunk (optional_lines (option_copied l.objects));
    }

abbrev pub decreases-loop-left : goal.decreases-loop-left
decreases-loop-left l = bytes_left (option_copied l.left)
