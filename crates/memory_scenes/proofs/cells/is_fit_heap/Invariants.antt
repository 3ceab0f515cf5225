use Rattle.memory_scenes.proofs.Common.{ℕ, ◌<◌, slice_index_or, All, ChunkValue, HasSoundReferences}
use Rattle.memory_scenes.proofs.cells.is_fit_heap.Given as goal

abbrev pub invariant-loop-chunk : goal.invariant-loop-chunk
invariant-loop-chunk l = (k : ℕ) (d : ChunkValue) → k < l.chunk-index → All (HasSoundReferences l.heap.chunks) (slice_index_or l.heap.chunks k d).cells
