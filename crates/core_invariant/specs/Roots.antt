-- The roots of a part's heap: what the remembered fields that point down into it hold now.
use Rattle.std.specs.Prelude.{List, slice_get}
use Rattle.core_invariant.specs.Common.{Addr, targets_of, Private, Resting, resting_references}
pub use Rattle.task_slots.specs.TaskSlotsValue.{sources_of}
use Rattle.core_invariant.specs.SharedValue.{SharedValue}

abbrev pub heaps_of : SharedValue → Resting
heaps_of w = record { rests = w.rests; pool = w.pool }

abbrev pub roots_of : SharedValue → Private → List Addr
roots_of w p = targets_of resting_references (heaps_of w) p.heap.chunks (sources_of (slice_get w.sets p.task))
