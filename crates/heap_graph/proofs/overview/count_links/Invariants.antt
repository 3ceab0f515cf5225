use Rattle.heap_graph.proofs.Common.{◌≡◌, length, lines_of, links_by}
use Rattle.heap_graph.proofs.overview.count_links.Given as goal

abbrev pub invariant-loop-said : goal.invariant-loop-said
invariant-loop-said l = links_by l.read l.path l.links (lines_of l.rest) ≡ links_by l.read l.path l.fn.links (lines_of l.text)

abbrev pub decreases-loop-said : goal.decreases-loop-said
decreases-loop-said l = length l.rest
