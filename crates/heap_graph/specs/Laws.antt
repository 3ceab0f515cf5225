-- Laws of the edges of an image.
use Rattle.std.specs.Prelude.{◌≡◌, ℕ, Bool, Some, length, Contains, count_by, is_some}
use Rattle.heap_graph.specs.Common.{ImageObject, Read, owner_at, ReferenceIs}
use Rattle.heap_graph.specs.Kinds.{edge_to, edges_of, is_long, port_at}

-- whether a reference leads into a heap
abbrev pub leads : Read → ℕ → Bool
leads r v = is_some (owner_at r.chunks v)

-- an object of t has an edge of its kind for each of its references that lead into a heap, and as many edges as such
-- references
pub record HasItsEdges (r : Read) (t : ℕ) (o : ImageObject) : Type 0 where
  pub each : (k v u : ℕ) → ReferenceIs o.references k v → owner_at r.chunks v ≡ Some u → Contains (edges_of r t o) (edge_to r t o.address (port_at (is_long o) k) v u)
  pub no_more : length (edges_of r t o) ≡ count_by (leads r) o.references

abbrev pub ReferencesAreEdges : Type 0
ReferencesAreEdges = (r : Read) (t : ℕ) (o : ImageObject) → HasItsEdges r t o
