use Rattle.heap_graph.proofs.Common.{◌≡◌, ◌++◌, drop, port_titles}
use Rattle.heap_graph.proofs.objects.add_ports.Given as goal

abbrev pub invariant-loop-place : goal.invariant-loop-place
invariant-loop-place l = l.title.items ++ port_titles l.place (drop l.place l.references) ≡ l.fn.title.items ++ port_titles 0 l.references
