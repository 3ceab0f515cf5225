-- Re-exports from `mark_sweep_gc` for the crates above.
pub use Rattle.heap_reading.specs.below.mark_sweep_gc.{MarkingValue}
