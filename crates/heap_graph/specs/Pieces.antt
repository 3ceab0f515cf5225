-- How boxes begin, and the remaining lines.
use Rattle.std.specs.Prelude.{ℕ, List, [], Option, Some, None}
use Rattle.heap_graph.specs.Common.{lines_of, cluster_begin}
use Rattle.heap_graph.specs.Names.{task_cluster}

-- the box of a task begins
abbrev pub opened : ℕ → List ℕ
opened t = cluster_begin (task_cluster t)

-- the lines of a text, or no line
abbrev pub optional_lines : Option (List ℕ) → List (List ℕ)
optional_lines None = []
optional_lines (Some text) = lines_of text
