use Rattle.heap_graph.proofs.Common.{◌≡◌, ◌+◌, ℕ, subst, arith, Contains, is_long, port_at, edge_to, edges_of}
use Rattle.heap_graph.proofs.EveryEdge.{each_edge, no_more_edges}
use Rattle.heap_graph.proofs.laws.references_are_edges.Goals as goal

pub returns : goal.returns
returns c = λ r t o.
    record {
      each = λ k v u h e.
          let P : ℕ → Type 0 = λ n. Contains (edges_of r t o) (edge_to r t o.address (port_at (is_long o) n) v u) in
          let q : k + 0 ≡ k = omega arith in
          subst P q (each_edge r t o.address (is_long o) 0 o.references k v u h e);
      no_more = no_more_edges r t o.address (is_long o) 0 o.references;
    }
