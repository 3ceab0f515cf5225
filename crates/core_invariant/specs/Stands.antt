-- The invariant of shared values.
use Rattle.std.specs.Prelude.{◌≡◌, ℕ, ◌<◌, ◌*◌, ◌/◌, ◌^◌, true, Some, [], length}
use Rattle.core_invariant.specs.Common.{IsProgram, AreSettings, is_legal, chunk_at, ChunkValue, chunk_words, AreTidy, CellsFitInChunks, LeafHeapValue, In, StandsForAll, IsLastLarge, IsLastSmall, HeapIsShaped, ParkedTask}
use Rattle.core_invariant.specs.Measured.{RestsAreMeasured}
use Rattle.core_invariant.specs.Objects.{OffsetsAreSmall, chunk_of}
use Rattle.core_invariant.specs.SharedValue.{SharedValue, accounts, rest_at, tree_counts_of, value_of}

-- what is known of a heap alone, whoever holds it
pub record HeapForm (h : LeafHeapValue) : Type 0 where
  pub shaped : HeapIsShaped h
  pub near : OffsetsAreSmall h.chunks
  pub tidy : AreTidy h.chunks
  pub within : CellsFitInChunks h.chunks
  pub last : IsLastSmall h.chunks h.current
  pub last_large : IsLastLarge h.chunks h.reserved
  -- the words placed fit in 64 bits
  pub since : h.since < 2 ^ 64
  -- each chunk has whole units, and a large one without objects is the reserved one
  pub whole : (k : ChunkValue) → In h.chunks k → k.size ≡ chunk_words * (k.size / chunk_words)
  pub spare : (i : ℕ) → i < length h.chunks → ((chunk_at h.chunks i).size ≡ chunk_words → ⊥) → (chunk_of (chunk_at h.chunks i)).objects ≡ [] → h.reserved ≡ Some i

-- its journal is legal, and it stands for its journal; the root of a run that is done is returned
pub record IsSharedValue (w : SharedValue) : Type 0 where
  pub settings : AreSettings w.settings
  pub form : IsProgram w.program
  pub legal : is_legal w.program w.settings w.journal.items ≡ true
  pub made : length w.rests ≡ length w.tree
  pub noted : length w.sets ≡ length w.tree
  pub workers : length w.tasks_out ≡ w.settings.workers
  pub limit : w.pool.limit ≡ w.settings.chunks
  pub stands : StandsForAll (value_of w) (tree_counts_of w) (accounts w)
  pub heaps : (t : ℕ) (r : ParkedTask) → rest_at w.rests t ≡ Some r → HeapForm r.heap
  -- the pool has exactly the units of each chunk
  pub measured : RestsAreMeasured w.pool w.rests w.tasks_out
