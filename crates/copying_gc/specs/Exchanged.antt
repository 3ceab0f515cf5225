-- Which chunks a heap keeps, and which it releases.
use Rattle.std.specs.Prelude.{◌≡◌, true, ℕ, Bool, List, [], ◌∷◌, ◌&&◌, Option, Some, None, is_some, length, nat_le, not, remove, if◌then◌else◌}
use Rattle.copying_gc.specs.Common.{Born, Cell, IsObject, moved_to, size_of, with_mark, chunk_words, ChunkValue, cell_at, cell_of, chunk_at, place_in, put_object}
pub use Rattle.leaf_heap.specs.Units.{counted32, unit_count}
use Rattle.copying_gc.specs.declared.lists.Survivor.{Survivor}

-- a large object that was found
abbrev pub is_found_large : Cell → Bool
is_found_large c = not (nat_le (size_of c) chunk_words) && is_some (moved_to c.mark)

-- a chunk that holds one stays
abbrev pub stays : ChunkValue → Bool
stays k = is_found_large (cell_at k.cells 0)

abbrev pub goes : ChunkValue → Bool
goes k = not (stays k)

-- a chunk without its objects
abbrev pub emptied : ChunkValue → ChunkValue
emptied k = record k { cells = [] }

-- the chunks except the reserved one, and the reserved one
abbrev pub unreserved : List ChunkValue → Option ℕ → List ChunkValue
unreserved ks None = ks
unreserved ks (Some i) = remove ks i

abbrev pub reserved_of : List ChunkValue → Option ℕ → List ChunkValue
reserved_of ks None = []
reserved_of ks (Some i) = chunk_at ks i ∷ []

-- the position of the last of these chunks, if any
abbrev pub last_place : List ChunkValue → Option ℕ
last_place [] = None
last_place (k ∷ ks) = Some (length ks)

-- the position of the reserved chunk after n others
abbrev pub reserved_place : ℕ → Option ℕ → Option ℕ
reserved_place n None = None
reserved_place n (Some i) = Some n

-- a survivor that is in the heap gets its birth name back
abbrev pub with_birth_name : List ChunkValue → Survivor → List ChunkValue
with_birth_name h s = if is_some (place_in h s.old.chunk) then put_object h s.old (with_mark (cell_of h s.old) (Born s.birth)) else h

-- each of these that is in the heap is an object there, when its turn comes
abbrev pub CanName : List ChunkValue → List Survivor → Type 0
CanName h [] = Unit {0}
CanName h (s ∷ ss) = (is_some (place_in h s.old.chunk) ≡ true → IsObject (cell_of h s.old).mark) × CanName (with_birth_name h s) ss
