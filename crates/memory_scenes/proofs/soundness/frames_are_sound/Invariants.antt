use Rattle.memory_scenes.proofs.Common.{ℕ, ◌<◌, All, frames_of, references_of, IsSoundReference}
use Rattle.memory_scenes.proofs.soundness.frames_are_sound.Given as goal

abbrev pub invariant-loop-frame : goal.invariant-loop-frame
invariant-loop-frame l = (k : ℕ) → k < l.frame → All (IsSoundReference l.heap.chunks) (references_of (frames_of l.frames) k)
