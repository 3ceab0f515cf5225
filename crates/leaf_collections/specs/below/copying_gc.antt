-- Re-exports from `copying_gc` for the crates above.
pub use Rattle.core_invariant.specs.below.copying_gc.{AreNew, AreSurvivors, CanTake, ObjectFits, HaveRoom, IsCollected, IsSoundReference, IsSurvivor, Laying, Moved, CopyStarts, Survivor, ToChunks, as_reference, back_of, nothing_laid, collected, emptied, frame_references, is_moved, keeps, laid_all, laid_at, laid_of, laid_one, large_of, last_place, laying_of, leaves, led_cell, led_chunk, moves_of, new_address, next_place, old_of, olds, open_next, opened, outside, placed_behind, redirection, references_in, relocations, reserved_of, reserved_place, room_in, small_words, smalls, survivor_order, unreserved}
