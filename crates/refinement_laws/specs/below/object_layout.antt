-- Re-exports from `object_layout` for the crates above.
pub use Rattle.refinement.specs.below.object_layout.{Addr, Birth, Born, Cell, Hole, Mark, Moved, size_of, ChunkValue, cell_of, place_in, chunk_position, Located, located, located_by, objects_from, objects_of, LiesThere, marked_object, with_ref, put_object, same_address, with_cell, with_fields, small_words, chunk_at, words_in, moved_to, object_words_in, held_size, held_words, PieceValue, frozen_at, frozen_from, lasts, object_count, one_each, sum_in, cell_at, changed_at, no_cell, no_chunk, push_object, object_of, has_chunk, small_part, number_of, objects_in, IsSoundReference, chunk_words, HaveDistinctNumbers, HasObjectAt, IsBorn, IsCellAt, HeapIsClosed, IsObject, BeginsInFirstUnit, IsRef, RefersTo, cells_from, led_object, object_at, same_reference, cell_with_int, word_of_ref}
