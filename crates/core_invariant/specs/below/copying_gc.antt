-- Re-exports from `copying_gc` for the crates above.
pub use Rattle.copying_gc.specs.Collected.{AreSurvivors, back_of, collected, keeps, laid_of, large_of, laying_of, leaves, moves_of, redirection}
pub use Rattle.copying_gc.specs.Exchanged.{emptied, last_place, reserved_of, reserved_place, unreserved}
pub use Rattle.copying_gc.specs.Laid.{AreNew, ObjectFits, HaveRoom, Laying, nothing_laid, is_moved, laid_all, laid_at, laid_one, next_place, open_next, opened, placed_behind, relocations, room_in, small_words, smalls}
pub use Rattle.copying_gc.specs.Laws.{CanTake}
pub use Rattle.copying_gc.specs.Lists.{HasReservedLists, IsCollected}
pub use Rattle.copying_gc.specs.Redirected.{led_cell, led_chunk, new_address}
pub use Rattle.copying_gc.specs.Survivors.{IsSoundReference, IsSurvivor, CopyStarts, as_reference, frame_references, old_of, olds, outside, references_in, survivor_order}
pub use Rattle.copying_gc.specs.declared.lists.Moved.{Moved}
pub use Rattle.copying_gc.specs.declared.lists.Survivor.{Survivor}
pub use Rattle.copying_gc.specs.declared.lists.ToChunks.{ToChunks}
