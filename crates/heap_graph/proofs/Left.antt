-- What is left of a text.
use Rattle.heap_graph.proofs.Common.{ℕ, ◌+◌, List, length, Option, Some, None}

abbrev pub bytes_left : Option (List ℕ) → ℕ
bytes_left None = 0
bytes_left (Some text) = length text + 1
