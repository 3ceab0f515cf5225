-- The steps by which survivors are found.
use Rattle.std.specs.Prelude.{◌<◌, length, List, [], ◌∷◌, ◌++◌, Option, Some, None, fold}
use Rattle.copying_gc.specs.Common.{Addr, Birth, Born, Hole, IsObject, Mark, Moved, with_mark, chunk_words, ChunkValue, cell_of, chunk_position, put_object}
use Rattle.copying_gc.specs.Survivors.{with_chunks}
use Rattle.copying_gc.specs.CollectorValue.{CollectorValue}

-- the heap with one object marked as found: as if it had been moved to where it is
abbrev pub found_in : List ChunkValue → Addr → List ChunkValue
found_in h a = put_object h a (with_mark (cell_of h a) (Moved a))

-- with all of these
abbrev pub all_found : List ChunkValue → List Addr → List ChunkValue
all_found h xs = fold found_in h xs

-- the birth name of an object that still has it
abbrev pub birth_in : Mark → Option Birth
birth_in (Born b) = Some b
birth_in (Moved to) = None
birth_in Hole = None

-- an address was visited, at which there was an object with this birth name, or none
abbrev pub visited_at : CollectorValue → Addr → Option Birth → CollectorValue
visited_at c a None = c
visited_at c a (Some b) = record c {
  heap = with_chunks c.heap (found_in c.heap.chunks a);
  found = c.found ++ record { birth = b; old = a } ∷ [];
}

-- a reference was followed
abbrev pub visited_reference : CollectorValue → Option Addr → CollectorValue
visited_reference c None = c
visited_reference c (Some a) = visited_at c a (birth_in (cell_of c.heap.chunks a).mark)

-- a reference into the heap leads to an object there, found or not, at an address that a word can hold
abbrev pub IsTarget : List ChunkValue → Option Addr → Type 0
IsTarget h None = Unit {0}
IsTarget h (Some a) = chunk_position h a.chunk < length h → IsObject (cell_of h a).mark × (a.offset < chunk_words)
