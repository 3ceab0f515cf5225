-- Re-exports from `mark_sweep_gc` for the crates above.
pub use Rattle.refinement.specs.below.mark_sweep_gc.{MarkingValue, AreGiven, Fork, HasCapacityForAll, IsAllMarked, IsDone, IsInSnapshot, IsMarking, IsOf, IsSince, MarkStarts, goes, gone_of, has_address, has_object, is_object, marked_of, chunk_number_at, place_at, stays, swept, swept_cell, swept_cells, swept_chunk, units_in_slots}
