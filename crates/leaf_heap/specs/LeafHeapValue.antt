-- A task's own heap, as callers see it.
use Rattle.std.specs.Prelude.{◌≡◌, All, ℕ, ◌+◌, ◌-◌, ◌*◌, ◌^◌, ◌<◌, ◌≤◌, List, [], ◌∷◌, ◌++◌, ◌==◌, if◌then◌else◌, Option, Some, None, length, min, nat_le, option_map}
use Rattle.leaf_heap.specs.Common.{Addr, Cell, IsObject, moved_to, size_of, chunk_words, ChunkValue, words_in, cell_of, chunk_at, held_words, object_count, place_in, push_object, small_words, PiecesValue, ShowsChunks, last_count}
pub use Rattle.object_layout.specs.Cell.{units}
pub use Rattle.object_layout.specs.Chunks.{HaveDistinctNumbers, IsFresh}

-- its chunks in the order in which they were added; the position of the small chunk that is being filled, and of the
-- chunk that is reserved for a large object; the words that were placed since the count was reset; and the spare
-- capacity of its list and of its table
pub record LeafHeapValue : Type 0 where
  pub chunks : List ChunkValue
  pub current : Option ℕ
  pub reserved : Option ℕ
  pub since : ℕ
  pub slots : ℕ
  pub spare : ℕ

-- a heap that has no chunks, and no places for any
abbrev pub no_contents : LeafHeapValue
no_contents = record { chunks = []; current = None; reserved = None; since = 0; slots = 0; spare = 0 }

-- what lies behind the pointer of a heap, if anything does
abbrev pub contents_value : Option LeafHeapValue → LeafHeapValue
contents_value None = no_contents
contents_value (Some h) = h

-- a number of words, saturating at 64 bits
abbrev pub saturating_words : ℕ → ℕ
saturating_words n = min n last_count

-- the words left in the chunk at a position
abbrev pub room_at : List ChunkValue → Option ℕ → ℕ
room_at ks None = 0
room_at ks (Some i) = (chunk_at ks i).size - words_in (chunk_at ks i).cells

abbrev pub room_of : LeafHeapValue → ℕ
room_of h = room_at h.chunks h.current

-- a small object goes into the chunk being filled, if it has room for its words
abbrev pub small_place : List ChunkValue → Option ℕ → ℕ → Option ℕ
small_place ks at w = if nat_le w (room_at ks at) then at else None

-- a large object goes into the reserved chunk, if it has exactly its units
abbrev pub large_place : List ChunkValue → Option ℕ → ℕ → Option ℕ
large_place ks None w = None
large_place ks (Some i) w = if (chunk_at ks i).size == chunk_words * units w then Some i else None

-- the position of the chunk into which an object of w words goes; None if there is none
abbrev pub place_for : LeafHeapValue → ℕ → Option ℕ
place_for h w = if nat_le w chunk_words then small_place h.chunks h.current w else large_place h.chunks h.reserved w

-- the heap with one more object in the chunk at this position
abbrev pub placed_at : LeafHeapValue → ℕ → Cell → LeafHeapValue
placed_at h i c = record h {
  chunks = push_object h.chunks i c;
  reserved = if nat_le (size_of c) chunk_words then h.reserved else None;
  since = saturating_words (h.since + size_of c);
}

abbrev pub with_object_placed : LeafHeapValue → Option ℕ → Cell → LeafHeapValue
with_object_placed h None c = h
with_object_placed h (Some i) c = placed_at h i c

-- the heap with one more, empty chunk: it is filled from then on, or reserved if it is large
abbrev pub added : LeafHeapValue → ChunkValue → LeafHeapValue
added h k = if k.size == chunk_words
    then record h { chunks = h.chunks ++ k ∷ []; current = Some (length h.chunks) }
    else record h { chunks = h.chunks ++ k ∷ []; reserved = Some (length h.chunks) }

-- the heap with other chunks in place of its own
abbrev pub exchanged : LeafHeapValue → List ChunkValue → Option ℕ → Option ℕ → LeafHeapValue
exchanged h ks filled kept = record h { chunks = ks; current = filled; reserved = kept }

-- the heap with the chunks of two others in front of its own; it goes on filling its own chunk
abbrev pub merged : LeafHeapValue → LeafHeapValue → LeafHeapValue → LeafHeapValue
merged h left right = record h {
  chunks = left.chunks ++ (right.chunks ++ h.chunks);
  current = option_map (λ i. i + (length left.chunks + length right.chunks)) h.current;
  reserved = option_map (λ i. i + (length left.chunks + length right.chunks)) h.reserved;
  since = saturating_words (h.since + (left.since + right.since));
}

-- the same heap with other spare capacities
abbrev pub with_places : LeafHeapValue → ℕ → ℕ → LeafHeapValue
with_places h slots spare = record h { slots = slots; spare = spare }

-- ---- the invariant of a heap

-- the chunk being filled is a small one
abbrev pub IsCurrent : List ChunkValue → Option ℕ → Type 0
IsCurrent ks None = Unit {0}
IsCurrent ks (Some i) = (i < length ks) × ((chunk_at ks i).size ≡ chunk_words)

-- the reserved chunk is a large one, and empty
abbrev pub IsReserved : List ChunkValue → Option ℕ → Type 0
IsReserved ks None = Unit {0}
IsReserved ks (Some i) = (i < length ks) × ((chunk_words < (chunk_at ks i).size) × ((chunk_at ks i).cells ≡ []))

-- all words of these chunks are inside them
abbrev pub CellsFitInChunks : List ChunkValue → Type 0
CellsFitInChunks ks = All (λ k. words_in k.cells ≤ k.size) ks

-- the table has exactly the distance of each chunk from a base, all words are inside their chunks, the counts are those
-- of the words, of the objects, and of the words of small objects, and the cached pieces show what their chunks hold
pub record AgreesWithChunks (chunks : List ChunkValue) (pieces : PiecesValue) (filled kept : Option ℕ) (count many part base : ℕ) (place : ℕ → Option ℕ) (entries : ℕ) : Type 0 where
  pub current : IsCurrent chunks filled
  pub reserved : IsReserved chunks kept
  pub within : CellsFitInChunks chunks
  pub words : count ≡ saturating_words (held_words chunks)
  pub objects : many ≡ saturating_words (object_count chunks)
  pub small : part ≡ saturating_words (small_words chunks)
  pub least : 2 ^ 63 ≤ base
  pub moved : base ≤ 2 ^ 63 + length chunks
  pub table : (number : ℕ) → place number ≡ option_map (λ i. base - i) (place_in chunks number)
  pub each : entries ≡ length chunks
  pub shown : ShowsChunks pieces chunks

-- ---- the invariant of a heap between collections

-- no object was moved; a large one has its chunk, of exactly its units, to itself; and a large chunk holds at most one
-- object
pub record IsTidy (k : ChunkValue) : Type 0 where
  pub unmoved : All (λ c. moved_to c.mark ≡ None) k.cells
  pub alone : All (λ c. chunk_words < size_of c → length k.cells ≡ 1) k.cells
  pub exact : All (λ c. chunk_words < size_of c → k.size ≡ chunk_words * units (size_of c)) k.cells
  pub few : chunk_words < k.size → length k.cells ≤ 1

abbrev pub AreTidy : List ChunkValue → Type 0
AreTidy ks = All IsTidy ks

-- each object begins within the first 1,024 words of its chunk
abbrev pub AllBeginInFirstUnit : List ChunkValue → Type 0
AllBeginInFirstUnit ks = (a : Addr) → IsObject (cell_of ks a).mark → a.offset < chunk_words

-- all chunks are so, and their numbers are distinct
pub record IsSettled (ks : List ChunkValue) : Type 0 where
  pub tidy : AreTidy ks
  pub apart : HaveDistinctNumbers ks
