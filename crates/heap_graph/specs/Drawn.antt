-- An image, object by object.
use Rattle.std.specs.Prelude.{ℕ, zero, suc, ◌+◌, ◌==◌, not, Bool, false, Option, Some, None, List, [], ◌∷◌, ◌++◌, codes, drop, length, nat_lt, if◌then◌else◌}
use Rattle.std.specs.List.{flat_map}
use Rattle.std.specs.Fmt.{decimal}
use Rattle.heap_graph.specs.Common.{words_of, ImageBirth, ImageTask, ImageChunk, ImageObject, ImageLine, OfTask, OfChunk, OfObject, Read, line_meaning, chunk_number, ImageTasks, image_parent, owner_at, task_name, Statement, Statements, Setting, Node, Cluster, NoStatement, Statement_, alone}
use Rattle.heap_graph.specs.declared.held.HeapTotals.{HeapTotals}
use Rattle.heap_graph.specs.Names.{task_cluster, chunk_name, chunk_cluster, object_name, task_title, chunk_title}
use Rattle.heap_graph.specs.Kinds.{field_limit, is_long, edges_of}
use Rattle.heap_graph.specs.HeapTotals.{Heaps, held_of, is_drawn}

-- PATHS

abbrev pub path_above : (ℕ → List ℕ) → Option ℕ → List ℕ
path_above walk None = []
path_above walk (Some p) = walk p

-- the tasks from the root to t, but at most the last n
abbrev pub path : ℕ → ImageTasks → ℕ → List ℕ
path zero tasks t = []
path (suc n) tasks t = path_above (path n tasks) (image_parent tasks t) ++ t ∷ []

abbrev pub path_to : ImageTasks → ℕ → List ℕ
path_to tasks t = path (length tasks) tasks t

-- a statement in nested boxes of these tasks
abbrev pub boxed : List ℕ → Statement → Statement
boxed [] s = s
boxed (t ∷ ts) s = Cluster (task_cluster t) (alone (boxed ts s))

-- in the box of a task, which is inside its parent's
abbrev pub inside : ImageTasks → ℕ → Statement → Statement
inside tasks t s = boxed (path_to tasks t) s

abbrev pub statements : List Statement → Statements
statements [] = NoStatement
statements (s ∷ ss) = Statement_ s (statements ss)

-- OBJECTS

abbrev pub reference_title : ℕ → List ℕ
reference_title v = if v == 0 then codes "nil" else decimal v

-- a field of a record, with a port
abbrev pub port_title : ℕ → ℕ → List ℕ
port_title k v = codes "|<f" ++ decimal k ++ codes "> " ++ reference_title v

abbrev pub port_titles : ℕ → List ℕ → List ℕ
port_titles k [] = []
port_titles k (v ∷ vs) = port_title k v ++ port_titles (k + 1) vs

abbrev pub birth_title : ImageBirth → List ℕ
birth_title b = codes "(" ++ decimal b.task ++ codes "," ++ decimal b.count ++ codes ")"

-- one field for all references
abbrev pub count_title : ℕ → List ℕ
count_title n = codes "|<f0> references: " ++ decimal n

abbrev pub references_title : ImageObject → List ℕ
references_title o = if is_long o then count_title (length o.references) else port_titles 0 o.references

-- a field that says a word
abbrev pub word_field : List ℕ → List ℕ
word_field w = 124 ∷ w

abbrev pub first_point : List (List ℕ) → List ℕ
first_point [] = []
first_point (w ∷ ws) = w

-- in an object's line four words come before the one for its kind, and two more before its references
abbrev pub kind_title : List ℕ → List ℕ
kind_title line = word_field (first_point (drop 4 (words_of line)))

-- as in the line, or only their number
abbrev pub numbers_title : List ℕ → ImageObject → List ℕ
numbers_title line o =
    if nat_lt field_limit o.numbers then codes "|numbers: " ++ decimal o.numbers
    else flat_map word_field (drop (7 + length o.references) (words_of line))

-- its name, its kind, its references and its numbers
abbrev pub object_title : List ℕ → ImageObject → List ℕ
object_title line o = birth_title o.birth ++ kind_title line ++ references_title o ++ numbers_title line o

abbrev pub node_of : List ℕ → ImageObject → Statement
node_of line o = Node (object_name o.address) ((codes "shape", codes "record") ∷ (codes "label", object_title line o) ∷ [])

abbrev pub node_by : List ℕ → ImageLine → List Statement
node_by line (OfObject o) = node_of line o ∷ []
node_by line _ = []

-- THE OBJECTS OF A CHUNK

abbrev pub lies_elsewhere : ℕ → ImageLine → Bool
lies_elsewhere c (OfObject o) = not (chunk_number o.address == c)
lies_elsewhere c _ = false

-- the objects up to the first one in another chunk: the lines of an image ascend, so that those of a chunk follow those
-- of the chunk before
abbrev pub nodes_in : ℕ → List (List ℕ) → List Statement
nodes_in c [] = []
nodes_in c (l ∷ ls) = if lies_elsewhere c (line_meaning l) then [] else node_by l (line_meaning l) ++ nodes_in c ls

-- the lines from that one on
abbrev pub lines_behind : ℕ → List (List ℕ) → List (List ℕ)
lines_behind c [] = []
lines_behind c (l ∷ ls) = if lies_elsewhere c (line_meaning l) then l ∷ ls else lines_behind c ls

-- LINES

abbrev pub point : List ℕ → Statement
point name = Node name ((codes "shape", codes "point") ∷ (codes "style", codes "invis") ∷ [])

-- a box with a title, a point and its contents
abbrev pub titled_box : List ℕ → List ℕ → List ℕ → List Statement → Statement
titled_box cluster name title within = Cluster cluster (Statement_ (Setting (codes "label") title) (Statement_ (point name) (statements within)))

abbrev pub task_box : ImageTask → HeapTotals → Statement
task_box t h = titled_box (task_cluster t.number) (task_name t.number) (task_title t h) []

abbrev pub task_drawn : Read → Heaps → ImageTask → Statement
task_drawn r m t = boxed (path_above (path_to r.tasks) t.parent) (task_box t (held_of m t.number))

abbrev pub chunk_box : ImageChunk → List Statement → Statement
chunk_box c within = titled_box (chunk_cluster c.number) (chunk_name c.number) (chunk_title c) within

abbrev pub chunk_drawn : Read → ImageChunk → List (List ℕ) → Statement
chunk_drawn r c objects = inside r.tasks c.owner (chunk_box c (nodes_in c.number objects))

-- the edges of an object whose heap is drawn
abbrev pub edges_drawn : Read → Option ℕ → ImageObject → Option ℕ → List Statement
edges_drawn r p o None = []
edges_drawn r p o (Some t) = if is_drawn r p t then edges_of r t o else []

abbrev pub drawn_task : Read → Heaps → Option ℕ → ImageTask → List Statement
drawn_task r m p t = if is_drawn r p t.number then task_drawn r m t ∷ [] else []

abbrev pub drawn_chunk : Read → Option ℕ → ImageChunk → List (List ℕ) → List Statement
drawn_chunk r p c objects = if is_drawn r p c.owner then chunk_drawn r c objects ∷ [] else []

-- what a line adds, given the lines whose objects aren't drawn yet
abbrev pub drawn : Read → Heaps → Option ℕ → List (List ℕ) → ImageLine → List Statement
drawn r m p objects (OfTask t) = drawn_task r m p t
drawn r m p objects (OfChunk c) = drawn_chunk r p c objects
drawn r m p objects (OfObject o) = edges_drawn r p o (owner_at r.chunks o.address)
drawn r m p objects _ = []

-- the lines left after that
abbrev pub undrawn_after : ImageLine → List (List ℕ) → List (List ℕ)
undrawn_after (OfChunk c) objects = lines_behind c.number objects
undrawn_after _ objects = objects

-- what lines add
abbrev pub all_drawn : Read → Heaps → Option ℕ → List (List ℕ) → List (List ℕ) → List Statement
all_drawn r m p objects [] = []
all_drawn r m p objects (l ∷ ls) = drawn r m p objects (line_meaning l) ++ all_drawn r m p (undrawn_after (line_meaning l) objects) ls
