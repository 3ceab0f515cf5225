-- Re-exports from `object_layout` for the crates above.
pub use Rattle.refinement.proofs.below.object_layout.{object_read, objects_lie_there, is_same, same_is, chunk_there, behind, length-put, put_changes_one, appended_is_last, words_in-push, has_own, Once, apart_together, born_name, cell_in, distinct_take, first, found_any, fresh_none, has_append, led_are_read, objects_appended, once_from, sifted_are_filtered}
pub use Rattle.refinement.proofs.below.object_layout.ChunkLaws as ChunkLaws
