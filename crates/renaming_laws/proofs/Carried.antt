-- Walks and places under a renaming.
use Rattle.renaming_laws.proofs.Common.{ℕ, List, [], ◌∷◌, Contains, map, ap, ◌∙◌, In, in_from_contains, contains_from_in, Strand, Edge, IsEdgeWalk, Precedes, strand_to, edge_to}

module _ (f : ℕ → ℕ) (all all' : List Edge) (each : (e : Edge) → In all e → In all' (edge_to f e)) where
  edge_carried : (e : Edge) → Contains all e → Contains all' (edge_to f e)
  edge_carried e h = contains_from_in all' (edge_to f e) (each e (in_from_contains all e h))

  walk_carried : (es : List Edge) (u v : Strand) → IsEdgeWalk all u es v → IsEdgeWalk all' (strand_to f u) (map (edge_to f) es) (strand_to f v)
  walk_carried [] u v h = ap (strand_to f) h
  walk_carried (e ∷ es) u v h = (ap (strand_to f) h.0, edge_carried e h.1, walk_carried es e.target v h.2)

  pub walk_to : (es : List Edge) (u v : Strand) → IsEdgeWalk all u es v → Precedes all' (strand_to f u) (strand_to f v)
  walk_to es u v h = (map (edge_to f) es, walk_carried es u v h)
