use Rattle.memory_scenes.proofs.Common.{ℕ, ◌<◌, slice_index_or, Some, Addr, IsSoundReference}
use Rattle.memory_scenes.proofs.soundness.roots_are_sound.Given as goal

abbrev pub invariant-loop-root : goal.invariant-loop-root
invariant-loop-root l = (k : ℕ) (d : Addr) → k < l.root-index → IsSoundReference l.heap.chunks (Some (slice_index_or l.roots k d))
