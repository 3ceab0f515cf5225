-- Re-exports from `object_layout` for the crates above.
pub use Rattle.core_invariant.specs.below.object_layout.{small_words, ChunkValue, number_of, Addr, HasObjectAt, with_ref, cell_of, object_of, cell_with_int}
