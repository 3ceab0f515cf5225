use Rattle.heap_graph.proofs.Common.{◌≡◌, drop, with_links}
use Rattle.heap_graph.proofs.overview.count_references.Given as goal

abbrev pub invariant-loop-reference : goal.invariant-loop-reference
invariant-loop-reference l = with_links l.read l.links l.task (drop l.reference-index l.references) ≡ with_links l.read l.fn.links l.task l.references
