-- The graph of an image.
use Rattle.std.specs.Prelude.{ℕ, ◌||◌, Bool, Option, List, [], ◌∷◌, ◌++◌, codes, length, nat_lt, if◌then◌else◌}
use Rattle.heap_graph.specs.Common.{lines_of, Read, all_read, Statement, Setting, graph}
use Rattle.heap_graph.specs.HeapTotals.{held_by}
use Rattle.heap_graph.specs.Drawn.{all_drawn}
use Rattle.heap_graph.specs.Overview.{heaps_drawn, links_by, links_drawn}

-- edges can end at boxes
abbrev pub settings : List Statement
settings =
    Setting (codes "compound") (codes "true")
    ∷ Setting (codes "rankdir") (codes "LR")
    ∷ []

-- heap by heap
abbrev pub overview : Read → Option ℕ → List (List ℕ) → List Statement
overview r p lines = heaps_drawn r (held_by r [] lines) p lines ++ links_drawn r (links_by r p [] lines)

-- object by object
abbrev pub picture : Read → Option ℕ → List (List ℕ) → List Statement
picture r p lines = all_drawn r (held_by r [] lines) p lines lines

-- more objects, or more tasks, than the limit
abbrev pub is_large : Read → ℕ → Bool
is_large r limit = nat_lt limit (length r.objects) || nat_lt limit (length r.tasks)

abbrev pub statements_of : Read → Option ℕ → ℕ → List (List ℕ) → List Statement
statements_of r p limit lines = if is_large r limit then overview r p lines else picture r p lines

-- the graph of all heaps of an image, or of those on the path to a task
abbrev pub graph_of : Option ℕ → ℕ → List ℕ → List ℕ
graph_of p limit text = graph (codes "heaps") (settings ++ statements_of (all_read (lines_of text)) p limit (lines_of text))
