use Rattle.memory_scenes.proofs.Common.{ℕ, ◌<◌, slice_index_or, IsSome, ChunkValue, slot_at}
use Rattle.memory_scenes.proofs.sweeping.pool_of.Given as goal

abbrev pub invariant-loop-chunk : goal.invariant-loop-chunk
invariant-loop-chunk l = (k : ℕ) (d : ChunkValue) → k < l.chunk-index → IsSome (slot_at l.pool (slice_index_or l.chunks k d).number)
