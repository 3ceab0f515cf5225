use Rattle.memory_scenes.proofs.Common.{ℕ, ◌<◌, slice_index_or, Option, Addr, cell_at, IsSoundReference}
use Rattle.memory_scenes.proofs.cells.leads_to_objects.Given as goal

abbrev pub invariant-loop-field : goal.invariant-loop-field
invariant-loop-field l = (k : ℕ) (d : Option Addr) → k < l.field → IsSoundReference l.heap.chunks (slice_index_or (cell_at l.chunk.cells l.at).refs k d)
