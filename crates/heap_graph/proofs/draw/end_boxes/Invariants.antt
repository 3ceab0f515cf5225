use Rattle.heap_graph.proofs.Common.{◌≡◌, ◌++◌, take, flat_map, braces_end}
use Rattle.heap_graph.proofs.draw.end_boxes.Given as goal

abbrev pub invariant-loop : goal.invariant-loop
invariant-loop l = l.text.items ≡ l.fn.text.items ++ flat_map (λ _. braces_end) (take l.index l.way)
