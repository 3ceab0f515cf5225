-- Re-exports from `mark_sweep_gc` for the crates above.
pub use Rattle.heap_marking.specs.below.mark_sweep_gc.{MarkingValue, AreGiven, IsAllMarked, IsMarking, IsOf, Fork, IsSince}
