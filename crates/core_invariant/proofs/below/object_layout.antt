-- Re-exports from `object_layout` for the crates above.
pub use Rattle.refinement_laws.proofs.below.object_layout.{Once, apart_together, behind, born_name, cell_in, chunk_there, distinct_take, first, found_any, fresh_none, has_append, has_own, is_same, led_are_read, objects_appended, once_from, same_is, sifted_are_filtered, words_in-push}
