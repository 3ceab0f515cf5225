-- Re-exports from `mark_sweep_gc` for the crates above.
pub use Rattle.mark_sweep_gc.specs.MarkingValue.{HasCapacityForAll, IsAllMarked, IsDone, IsMarking, IsOf, MarkingValue, has_address, marked_of}
pub use Rattle.mark_sweep_gc.specs.Snapshot.{Fork, IsInSnapshot, IsSince, MarkStarts}
pub use Rattle.mark_sweep_gc.specs.Swept.{AreGiven, goes, gone_of, has_object, is_object, chunk_number_at, place_at, stays, swept, swept_cell, swept_cells, swept_chunk, units_in_slots}
