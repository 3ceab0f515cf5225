-- Re-exports from `object_layout` for the crates above.
pub use Rattle.refinement_laws.specs.below.object_layout.{Addr, HaveDistinctNumbers, Birth, Born, Cell, ChunkValue, HasObjectAt, Hole, IsBorn, IsCellAt, HeapIsClosed, IsObject, BeginsInFirstUnit, IsRef, IsSoundReference, RefersTo, LiesThere, Located, Mark, Moved, cell_at, cell_of, cells_from, chunk_at, chunk_words, has_chunk, held_size, held_words, led_object, located, located_by, marked_object, moved_to, no_chunk, number_of, object_at, object_count, object_of, object_words_in, objects_from, place_in, chunk_position, put_object, same_address, same_reference, size_of, small_words, with_fields, cell_with_int, with_ref, word_of_ref, words_in}
