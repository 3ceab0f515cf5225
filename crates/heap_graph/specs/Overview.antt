-- An image, heap by heap.
use Rattle.std.specs.Prelude.{ℕ, Bool, Option, Some, None, List, [], ◌∷◌, codes, if◌then◌else◌}
use Rattle.std.specs.List.{flat_map}
use Rattle.std.specs.Map.{lookup}
use Rattle.std.specs.Fmt.{decimal}
use Rattle.heap_graph.specs.Common.{insert_entry, ImageTask, ImageObject, ImageLine, OfTask, OfObject, Read, Relation, line_meaning, relation_of, owner_at, is_running, same_birth, Attributes, Statement, Node, Edge, raised_by, task_name}
use Rattle.heap_graph.specs.Names.{port_name, heap_title}
use Rattle.heap_graph.specs.Kinds.{kind_attributes}
use Rattle.heap_graph.specs.HeapTotals.{Heaps, held_of, is_drawn}

-- HEAPS

abbrev pub heap_node : Heaps → ImageTask → Statement
heap_node m t = Node (task_name t.number) ((codes "shape", codes "record") ∷ (codes "label", heap_title t (held_of m t.number)) ∷ [])

abbrev pub tree_attributes : Attributes
tree_attributes = (codes "style", codes "dotted") ∷ (codes "arrowhead", codes "none") ∷ []

-- a line from the parent's heap
abbrev pub tree_edges : ℕ → Option ℕ → List Statement
tree_edges t None = []
tree_edges t (Some p) = Edge (task_name p) (port_name 0) (task_name t) tree_attributes ∷ []

abbrev pub heap_drawn : Heaps → ImageTask → List Statement
heap_drawn m t = heap_node m t ∷ tree_edges t.number t.parent

abbrev pub heap_by : Read → Heaps → Option ℕ → ImageLine → List Statement
heap_by r m p (OfTask t) = if is_drawn r p t.number then heap_drawn m t else []
heap_by r m p _ = []

abbrev pub heaps_drawn : Read → Heaps → Option ℕ → List (List ℕ) → List Statement
heaps_drawn r m p lines = flat_map (λ l. heap_by r m p (line_meaning l)) lines

-- THE NUMBERS OF REFERENCES FROM HEAP TO HEAP

abbrev pub DrawnLinks : Type 0
DrawnLinks = List ((ℕ × ℕ) × ℕ)

abbrev pub or_none : Option ℕ → ℕ
or_none None = 0
or_none (Some n) = n

abbrev pub links_at : DrawnLinks → ℕ → ℕ → ℕ
links_at m t u = or_none (lookup (same_birth (t, u)) m)

-- one more from t to u
abbrev pub with_link : DrawnLinks → ℕ → ℕ → DrawnLinks
with_link m t u = insert_entry same_birth m (t, u) (raised_by (links_at m t u) 1)

-- to the heap of an address, if it is in one
abbrev pub with_link_to : DrawnLinks → ℕ → Option ℕ → DrawnLinks
with_link_to m t None = m
with_link_to m t (Some u) = with_link m t u

-- those of these references of a heap
abbrev pub with_links : Read → DrawnLinks → ℕ → List ℕ → DrawnLinks
with_links r m t [] = m
with_links r m t (v ∷ vs) = with_links r (with_link_to m t (owner_at r.chunks v)) t vs

abbrev pub with_links_of : Read → Option ℕ → DrawnLinks → ImageObject → Option ℕ → DrawnLinks
with_links_of r p m o None = m
with_links_of r p m o (Some t) = if is_drawn r p t then with_links r m t o.references else m

-- adds those of a line, if its object's heap is drawn
abbrev pub links_with : Read → Option ℕ → DrawnLinks → ImageLine → DrawnLinks
links_with r p m (OfObject o) = with_links_of r p m o (owner_at r.chunks o.address)
links_with r p m _ = m

abbrev pub links_by : Read → Option ℕ → DrawnLinks → List (List ℕ) → DrawnLinks
links_by r p m [] = m
links_by r p m (l ∷ ls) = links_by r p (links_with r p m (line_meaning l)) ls

-- AS EDGES

abbrev pub style_of : Bool → List ℕ
style_of runs = if runs then codes "dashed" else codes "solid"

-- of its kind, dashed into the heap of a running task, and with the number
abbrev pub link_attributes : Bool → ℕ → Relation → Attributes
link_attributes runs n kind = (codes "style", style_of runs) ∷ (codes "label", decimal n) ∷ kind_attributes kind

abbrev pub link_edge : Read → (ℕ × ℕ) × ℕ → Statement
link_edge r l = Edge (task_name l.0.0) (port_name 0) (task_name l.0.1) (link_attributes (is_running r.tasks l.0.1) l.1 (relation_of r.tasks l.0.0 l.0.1))

abbrev pub links_drawn : Read → DrawnLinks → List Statement
links_drawn r [] = []
links_drawn r (l ∷ ls) = link_edge r l ∷ links_drawn r ls
