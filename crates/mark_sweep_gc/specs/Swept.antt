-- What a sweep leaves of a heap, and what it releases.
use Rattle.std.specs.Prelude.{◌≡◌, ℕ, ◌+◌, ◌||◌, Bool, true, false, List, [], ◌∷◌, ◌==◌, Option, Some, None, All, filter, map, not}
use Rattle.std.specs.List.{list_any}
use Rattle.mark_sweep_gc.specs.Common.{Addr, Born, Cell, Hole, Mark, Moved, ChunkValue, chunk_at, place_in, sifted_cells, LeafHeapValue, IsFresh, PoolValue, slot_at, slot_units, units_in_use}
pub use Rattle.object_layout.specs.Objects.{swept_cell}
use Rattle.mark_sweep_gc.specs.MarkingValue.{has_address}

-- ---- a chunk

-- cells of a chunk, the first of them at an offset: those at marked addresses stay
abbrev pub swept_cells : List Addr → ℕ → ℕ → List Cell → List Cell
swept_cells marked number at cs = sifted_cells (has_address marked) number at cs

abbrev pub swept_chunk : List Addr → ChunkValue → ChunkValue
swept_chunk marked k = record k { cells = swept_cells marked k.number 0 k.cells }

-- whether an object is among these cells
abbrev pub is_object : Mark → Bool
is_object (Born b) = true
is_object (Moved to) = true
is_object Hole = false

abbrev pub has_object : List Cell → Bool
has_object cs = list_any (λ c. is_object c.mark) cs

-- ---- a heap

-- the number of the chunk at a position
abbrev pub chunk_number_at : List ChunkValue → Option ℕ → Option ℕ
chunk_number_at ks None = None
chunk_number_at ks (Some i) = Some (chunk_at ks i).number

-- the position of the chunk of a number
abbrev pub place_at : List ChunkValue → Option ℕ → Option ℕ
place_at ks None = None
place_at ks (Some n) = place_in ks n

abbrev pub has_number : Option ℕ → ChunkValue → Bool
has_number None k = false
has_number (Some n) k = k.number == n

-- a chunk stays if an object is left in it; so does the one of this number, which is reserved
abbrev pub stays : List Addr → Option ℕ → ChunkValue → Bool
stays marked reserved k = has_number reserved k || has_object (swept_chunk marked k).cells

abbrev pub goes : List Addr → Option ℕ → ChunkValue → Bool
goes marked reserved k = not (stays marked reserved k)

-- the chunks that stay, in order, and those that are released
abbrev pub staying_of : LeafHeapValue → List Addr → List ChunkValue
staying_of h marked = map (swept_chunk marked) (filter (stays marked (chunk_number_at h.chunks h.reserved)) h.chunks)

abbrev pub gone_of : LeafHeapValue → List Addr → List ChunkValue
gone_of h marked = filter (goes marked (chunk_number_at h.chunks h.reserved)) h.chunks

-- the heap with exactly the marked objects, each at its address; it goes on filling its chunk, if that stays, and keeps
-- the reserved one
abbrev pub swept : LeafHeapValue → List Addr → LeafHeapValue
swept h marked = record h {
  chunks = staying_of h marked;
  current = place_at (staying_of h marked) (chunk_number_at h.chunks h.current);
  reserved = place_at (staying_of h marked) (chunk_number_at h.chunks h.reserved);
}

-- ---- the pool

-- the units that the pool has for these chunks
abbrev pub units_in_slots : PoolValue → List ChunkValue → ℕ
units_in_slots pool [] = 0
units_in_slots pool (k ∷ ks) = slot_units (slot_at pool k.number) + units_in_slots pool ks

-- the numbers of these chunks are no longer in use; all else is unchanged
pub record AreGiven (old new : PoolValue) (ks : List ChunkValue) : Type 0 where
  pub free : All (λ k. slot_at new k.number ≡ None) ks
  pub others : (n : ℕ) → IsFresh ks n → slot_at new n ≡ slot_at old n
  pub limit : new.limit ≡ old.limit
  pub units : units_in_use new + units_in_slots old ks ≡ units_in_use old
