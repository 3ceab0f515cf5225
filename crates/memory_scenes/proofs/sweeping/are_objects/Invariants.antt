use Rattle.memory_scenes.proofs.Common.{ℕ, ◌<◌, slice_index_or, Addr, HasObjectAt}
use Rattle.memory_scenes.proofs.sweeping.are_objects.Given as goal

abbrev pub invariant-loop-object : goal.invariant-loop-object
invariant-loop-object l = (k : ℕ) (d : Addr) → k < l.object-index → HasObjectAt l.heap.chunks (slice_index_or l.objects k d)
