-- The names of tasks, chunks, objects and fields in a graph.
use Rattle.std.specs.Prelude.{ℕ, List, [], ◌++◌, codes}
use Rattle.std.specs.Fmt.{decimal}
use Rattle.heap_graph.specs.Common.{ImageTask, ImageChunk, ImageState, Running, state_word}
use Rattle.heap_graph.specs.declared.held.HeapTotals.{HeapTotals}

-- Graphviz draws a `cluster` as a box; a task's box contains a point with the task's name, for edges that lead into its
-- heap
abbrev pub task_cluster : ℕ → List ℕ
task_cluster t = codes "cluster task " ++ decimal t

abbrev pub chunk_name : ℕ → List ℕ
chunk_name c = codes "chunk " ++ decimal c

abbrev pub chunk_cluster : ℕ → List ℕ
chunk_cluster c = codes "cluster chunk " ++ decimal c

-- an object by its address
abbrev pub object_name : ℕ → List ℕ
object_name a = decimal a

-- a field by its index
abbrev pub port_name : ℕ → List ℕ
port_name k = codes "f" ++ decimal k

-- the words that a task's heap holds; an image doesn't say those of a running task
abbrev pub words_held : ImageState → ℕ → List ℕ
words_held Running words = []
words_held _ words = codes ", " ++ decimal words ++ codes " words"

-- its number, its state, and the words that its heap holds
abbrev pub task_title : ImageTask → HeapTotals → List ℕ
task_title t h = codes "task " ++ decimal t.number ++ codes " " ++ state_word t.state ++ words_held t.state h.words

abbrev pub chunk_title : ImageChunk → List ℕ
chunk_title c = codes "chunk " ++ decimal c.number ++ codes " of " ++ decimal c.words ++ codes " words"

-- fields of a record: the same, and the numbers of objects and chunks in its heap
abbrev pub heap_title : ImageTask → HeapTotals → List ℕ
heap_title t h = codes "<f0> " ++ task_title t h ++ codes "|objects: " ++ decimal h.objects ++ codes "|chunks: " ++ decimal h.chunks
