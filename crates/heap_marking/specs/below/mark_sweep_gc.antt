-- Re-exports from `mark_sweep_gc` for the crates above.
pub use Rattle.core_invariant.specs.below.mark_sweep_gc.{MarkingValue, AreGiven, IsAllMarked, IsMarking, IsOf, Fork, IsSince}
