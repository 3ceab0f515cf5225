-- Objects of a list of chunks, by their addresses.
use Rattle.std.specs.Prelude.{◌≡◌, ℕ, ◌+◌, Bool, List, [], ◌∷◌, ◌++◌, ◌==◌, ◌&&◌, if◌then◌else◌, Option, Some, None, is_some, length, nat_le, nat_lt, slice_index_or, slice_set}
use Rattle.object_layout.specs.declared.word.Addr.{Addr}
use Rattle.object_layout.specs.Cell.{Born, Cell, Hole, Mark, Moved, as_object, no_cell, size_of, chunk_words}
use Rattle.object_layout.specs.ChunkValue.{ChunkValue}
use Rattle.object_layout.specs.Place.{cell_at, put_cell, words_in}

-- whether two addresses are equal
abbrev pub same_address : Addr → Addr → Bool
same_address a b = a.chunk == b.chunk && a.offset == b.offset

-- no chunk: what is past the end of a list
abbrev pub no_chunk : ChunkValue
no_chunk = record { number = 0; size = 0; cells = [] }

-- the chunk at a place of the list
abbrev pub chunk_at : List ChunkValue → ℕ → ChunkValue
chunk_at ks i = slice_index_or ks i no_chunk

-- the position of the chunk of this number; the list's length if no chunk has it
abbrev pub chunk_position : List ChunkValue → ℕ → ℕ
chunk_position [] number = 0
chunk_position (k ∷ ks) number = if k.number == number then 0 else 1 + chunk_position ks number

-- the same; None if no chunk has it
abbrev pub place_in : List ChunkValue → ℕ → Option ℕ
place_in ks number = if nat_lt (chunk_position ks number) (length ks) then Some (chunk_position ks number) else None

-- whether one of these chunks has this number
abbrev pub has_chunk : List ChunkValue → ℕ → Bool
has_chunk ks number = is_some (place_in ks number)

-- none of these chunks has this number
abbrev pub IsFresh : List ChunkValue → ℕ → Type 0
IsFresh ks number = place_in ks number ≡ None

-- no two of these chunks have the same number
abbrev pub HaveDistinctNumbers : List ChunkValue → Type 0
HaveDistinctNumbers [] = Unit {0}
HaveDistinctNumbers (k ∷ ks) = IsFresh ks k.number × HaveDistinctNumbers ks

-- what begins at an address: an object or a hole; no object if neither does
abbrev pub cell_of : List ChunkValue → Addr → Cell
cell_of [] a = no_cell
cell_of (k ∷ ks) a = if k.number == a.chunk then cell_at k.cells a.offset else cell_of ks a

-- the object at an address; no object in a hole
abbrev pub object_of : List ChunkValue → Addr → Cell
object_of ks a = as_object (cell_of ks a)

-- the chunk with another cell at an offset
abbrev pub with_cell : ChunkValue → ℕ → Cell → ChunkValue
with_cell k at d = record k { cells = put_cell k.cells at d }

-- the chunks with another cell at an address
abbrev pub put_object : List ChunkValue → Addr → Cell → List ChunkValue
put_object [] a d = []
put_object (k ∷ ks) a d = if k.number == a.chunk then with_cell k a.offset d ∷ ks else k ∷ put_object ks a d

-- the chunks with one more object in the chunk at a position, after its others
abbrev pub push_object : List ChunkValue → ℕ → Cell → List ChunkValue
push_object ks i c = slice_set ks i (record (chunk_at ks i) { cells = (chunk_at ks i).cells ++ c ∷ [] })

-- the address of that object
abbrev pub next_address : ChunkValue → Addr
next_address k = record { chunk = k.number; offset = words_in k.cells }

-- the words of an object; none of a hole
abbrev pub held_size : Mark → ℕ → ℕ
held_size (Born b) n = n
held_size (Moved to) n = n
held_size Hole n = 0

-- the words of all objects of a chunk, and of a list of chunks
abbrev pub object_words_in : List Cell → ℕ
object_words_in [] = 0
object_words_in (c ∷ cs) = held_size c.mark (size_of c) + object_words_in cs

abbrev pub held_words : List ChunkValue → ℕ
held_words [] = 0
held_words (k ∷ ks) = object_words_in k.cells + held_words ks

-- the same, if an object of n words counts f n
abbrev pub sum_in : (ℕ → ℕ) → List Cell → ℕ
sum_in size [] = 0
sum_in size (c ∷ cs) = held_size c.mark (size (size_of c)) + sum_in size cs

abbrev pub sum_of : (ℕ → ℕ) → List ChunkValue → ℕ
sum_of size [] = 0
sum_of size (k ∷ ks) = sum_in size k.cells + sum_of size ks

-- how many objects there are
abbrev pub one_each : ℕ → ℕ
one_each n = 1

abbrev pub object_count : List ChunkValue → ℕ
object_count ks = sum_of one_each ks

-- the words of a small object, which has at most 1,024; 0 for a large one
abbrev pub small_part : ℕ → ℕ
small_part n = if nat_le n chunk_words then n else 0

-- the words of all small objects
abbrev pub small_words : List ChunkValue → ℕ
small_words ks = sum_of small_part ks
