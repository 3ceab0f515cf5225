use Rattle.heap_graph.proofs.Common.{◌≡◌, ◌++◌, drop, flat_map, dot, links_drawn}
use Rattle.heap_graph.proofs.overview.add_links.Given as goal

abbrev pub invariant-loop-place : goal.invariant-loop-place
invariant-loop-place l = l.text.items ++ flat_map dot (links_drawn l.read (drop l.place l.links)) ≡ l.fn.text.items ++ flat_map dot (links_drawn l.read l.links)
