use Rattle.memory_scenes.proofs.Common.{ℕ, ◌<◌, slice_index_or, Option, Addr, IsSoundReference}
use Rattle.memory_scenes.proofs.soundness.are_sound.Given as goal

abbrev pub invariant-loop-reference : goal.invariant-loop-reference
invariant-loop-reference l = (k : ℕ) (d : Option Addr) → k < l.reference-index → IsSoundReference l.heap.chunks (slice_index_or l.references k d)
