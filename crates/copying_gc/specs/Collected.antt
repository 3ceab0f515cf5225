-- A heap after a collection.
use Rattle.std.specs.Prelude.{◌≡◌, ◌+◌, ◌↔◌, ◌&&◌, Bool, false, List, ◌++◌, Option, Contains, filter, length, map, nat_le, not, reverse}
use Rattle.std.specs.List.{IsDistinct, list_any}
use Rattle.std.specs.List.Sorted.{IsSorted}
use Rattle.copying_gc.specs.Common.{Addr, Moved, size_of, with_mark, chunk_words, ChunkValue, cell_at, cell_of, LeafHeapValue, same_address, HaveSameShape}
use Rattle.copying_gc.specs.declared.lists.Survivor.{Survivor}
use Rattle.copying_gc.specs.Survivors.{HaveNames, IsSurvivor, olds, survivor_order}
use Rattle.copying_gc.specs.Laid.{Laying, nothing_laid, is_moved, laid_all, relocations, smalls}
use Rattle.copying_gc.specs.Redirected.{led_cell, led_chunk, redirected}
use Rattle.copying_gc.specs.Exchanged.{emptied, last_place, reserved_of, reserved_place, unreserved}

-- exactly what the references from outside lead to, each once, under its name, in order of birth
pub record AreSurvivors (h : List ChunkValue) (from : List (Option Addr)) (ss : List Survivor) : Type 0 where
  pub exactly : (a : Addr) → Contains (olds ss) a ↔ IsSurvivor h from a
  pub once : IsDistinct same_address (olds ss)
  pub names : HaveNames h ss
  pub order : IsSorted survivor_order ss

-- the new chunks after the small survivors are laid into them, and those not opened
abbrev pub laying_of : List ChunkValue → List Survivor → List ChunkValue → Laying
laying_of h ss news = laid_all (nothing_laid news) h (smalls h (olds ss))

-- where each small survivor was, and where it is laid
abbrev pub moves_of : List ChunkValue → List Survivor → List ChunkValue → List (Addr × Addr)
moves_of h ss news = relocations (nothing_laid news) h (smalls h (olds ss))

-- where each reference leads
abbrev pub redirection : List ChunkValue → List Survivor → List ChunkValue → Option Addr → Option Addr
redirection h ss news = redirected (moves_of h ss news)

-- ---- the old chunks, after all references are updated

-- a large survivor is where it was, marked as found, with its references updated; what doesn't survive is unchanged
pub record IsVacated (h g : List ChunkValue) (ss : List Addr) (f : Option Addr → Option Addr) : Type 0 where
  pub alike : HaveSameShape h g
  pub large : (a : Addr) → Contains ss a → is_moved h a ≡ false → cell_of g a ≡ led_cell f (with_mark (cell_of h a) (Moved a))
  pub others : (a : Addr) → (Contains ss a → ⊥) → cell_of g a ≡ cell_of h a

-- ---- the collected heap

-- a large survivor has this chunk
abbrev pub keeps : List Survivor → ChunkValue → Bool
keeps ss k = not (nat_le (size_of (cell_at k.cells 0)) chunk_words) && list_any (λ s. same_address s.old (record { chunk = k.number; offset = 0 })) ss

abbrev pub leaves : List Survivor → ChunkValue → Bool
leaves ss k = not (keeps ss k)

-- the chunks of large survivors, their references updated
abbrev pub large_of : LeafHeapValue → List Survivor → List ChunkValue → List ChunkValue
large_of h ss news = map (led_chunk (redirection h.chunks ss news)) (filter (keeps ss) (unreserved h.chunks h.reserved))

-- the new chunks with the small survivors, their references updated
abbrev pub laid_of : LeafHeapValue → List Survivor → List ChunkValue → List ChunkValue
laid_of h ss news = map (led_chunk (redirection h.chunks ss news)) (laying_of h.chunks ss news).laid

-- the heap with exactly these survivors: it goes on filling the last new chunk, and keeps the reserved one
abbrev pub collected : LeafHeapValue → List Survivor → List ChunkValue → LeafHeapValue
collected h ss news = record h {
  chunks = laid_of h ss news ++ (large_of h ss news ++ reserved_of h.chunks h.reserved);
  current = last_place (laid_of h ss news);
  reserved = reserved_place (length (laid_of h ss news) + length (large_of h ss news)) h.reserved;
  since = 0;
}

-- the chunks to release: old ones that aren't needed, and new ones that weren't opened
abbrev pub back_of : LeafHeapValue → List Survivor → List ChunkValue → List ChunkValue
back_of h ss news = map emptied (filter (leaves ss) (unreserved h.chunks h.reserved)) ++ reverse (laying_of h.chunks ss news).spare
