-- The kinds of references, as edges.
use Rattle.std.specs.Prelude.{ℕ, ◌+◌, Bool, true, false, Option, Some, None, List, [], ◌∷◌, ◌++◌, codes, length, nat_lt, if◌then◌else◌}
use Rattle.heap_graph.specs.Common.{ImageObject, Read, Relation, Own, Above, Below, Apart, relation_of, is_running, owner_at, task_name, Attributes, Statement, Edge}
use Rattle.heap_graph.specs.Names.{task_cluster, object_name, port_name}

-- inside a heap grey, up to an ancestor blue, down to a descendant red and bold, as on pages (page/colours.table); a
-- sound image has no references across, and each reference down is remembered
abbrev pub colour_of : Relation → List ℕ
colour_of Own = codes "#7b8394"
colour_of Above = codes "#1f66d6"
colour_of Below = codes "#cf2b2b"
colour_of Apart = codes "#b01bb8"

abbrev pub width_of : Relation → List ℕ
width_of Below = codes "2"
width_of _ = codes "1"

abbrev pub kind_attributes : Relation → Attributes
kind_attributes k = (codes "color", colour_of k) ∷ (codes "penwidth", width_of k) ∷ []

-- an edge into the heap of a running task is dashed, and ends at the task's box
abbrev pub running_attributes : ℕ → Relation → Attributes
running_attributes u k = (codes "style", codes "dashed") ∷ (codes "lhead", task_cluster u) ∷ kind_attributes k

abbrev pub dashed_edge : ℕ → ℕ → ℕ → Relation → Statement
dashed_edge a k u kind = Edge (object_name a) (port_name k) (task_name u) (running_attributes u kind)

abbrev pub plain_edge : ℕ → ℕ → ℕ → Relation → Statement
plain_edge a k v kind = Edge (object_name a) (port_name k) (object_name v) (kind_attributes kind)

-- from field k of t's object at a to v in the heap of u
abbrev pub edge_to : Read → ℕ → ℕ → ℕ → ℕ → ℕ → Statement
edge_to r t a k v u = if is_running r.tasks u then dashed_edge a k u (relation_of r.tasks t u) else plain_edge a k v (relation_of r.tasks t u)

-- nil, which is in no heap, has no edge
abbrev pub edge_by : Read → ℕ → ℕ → ℕ → ℕ → Option ℕ → List Statement
edge_by r t a k v None = []
edge_by r t a k v (Some u) = edge_to r t a k v u ∷ []

-- a record with more references than this has one field for all
abbrev pub field_limit : ℕ
field_limit = 64

abbrev pub is_long : ImageObject → Bool
is_long o = nat_lt field_limit (length o.references)

-- the field of the record for field k
abbrev pub port_at : Bool → ℕ → ℕ
port_at true k = 0
port_at false k = k

-- an edge for each reference of t's object at a, from field k on
abbrev pub edges_from : Read → ℕ → ℕ → Bool → ℕ → List ℕ → List Statement
edges_from r t a long k [] = []
edges_from r t a long k (v ∷ vs) = edge_by r t a (port_at long k) v (owner_at r.chunks v) ++ edges_from r t a long (k + 1) vs

abbrev pub edges_of : Read → ℕ → ImageObject → List Statement
edges_of r t o = edges_from r t o.address (is_long o) 0 o.references
