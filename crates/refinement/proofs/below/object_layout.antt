-- Re-exports from `object_layout` for the crates above.
pub use Rattle.object_layout.proofs.ChunkLaws.{length-put}
pub use Rattle.object_layout.proofs.Distinct.{Once, distinct_take, is_same, none_from, once_from, same_is}
pub use Rattle.object_layout.proofs.ObjectChanges.{appended_is_last, led_are_read, objects_appended, put_changes_one, sifted_are_filtered}
pub use Rattle.object_layout.proofs.ObjectLemmas.{behind, cell_in, chunk_there, first, has_own, object_read, objects_lie_there}
pub use Rattle.object_layout.proofs.Owning.{apart_together, found_any, fresh_none, has_append}
pub use Rattle.object_layout.proofs.PlaceLemmas.{born_name, words_in-push}
pub use Rattle.object_layout.proofs.ChunkLaws as ChunkLaws
