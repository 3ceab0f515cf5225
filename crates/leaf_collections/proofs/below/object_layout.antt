-- Re-exports from `object_layout` for the crates above.
pub use Rattle.core_invariant.proofs.below.object_layout.{Once, behind, cell_in, chunk_there, first, led_are_read, objects_appended, once_from, same_is, words_in-push}
