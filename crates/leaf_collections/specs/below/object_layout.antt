-- Re-exports from `object_layout` for the crates above.
pub use Rattle.core_invariant.specs.below.object_layout.{Addr, Birth, Born, Cell, ChunkValue, HasObjectAt, Hole, HeapIsClosed, IsSoundReference, RefersTo, Located, Mark, Moved, cell_at, cell_of, chunk_at, held_size, held_words, led_object, located, located_by, moved_to, number_of, object_of, object_words_in, objects_from, size_of, small_words, cell_with_int, with_ref, words_in}
