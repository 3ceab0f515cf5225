use Rattle.heap_graph.proofs.Common.{◌≡◌, length, lines_of, held_by}
use Rattle.heap_graph.proofs.held.add_all.Given as goal

abbrev pub invariant-loop-said : goal.invariant-loop-said
invariant-loop-said l = held_by l.read l.heaps (lines_of l.rest) ≡ held_by l.read l.fn.heaps (lines_of l.text)

abbrev pub decreases-loop-said : goal.decreases-loop-said
decreases-loop-said l = length l.rest
