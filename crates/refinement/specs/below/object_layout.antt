-- Re-exports from `object_layout` for the crates above.
pub use Rattle.object_layout.specs.Cell.{Born, Cell, Hole, IsBorn, IsObject, BeginsInFirstUnit, IsRef, Mark, Moved, chunk_words, marked_object, moved_to, no_cell, size_of, cell_with_int, with_ref}
pub use Rattle.object_layout.specs.ChunkValue.{ChunkValue, number_of}
pub use Rattle.object_layout.specs.Chunks.{HaveDistinctNumbers, cell_of, chunk_at, has_chunk, held_size, held_words, no_chunk, object_count, object_of, object_words_in, one_each, place_in, chunk_position, push_object, put_object, same_address, small_part, small_words, sum_in, with_cell}
pub use Rattle.object_layout.specs.Graph.{HasObjectAt, HeapIsClosed, IsSoundReference, RefersTo}
pub use Rattle.object_layout.specs.Layout.{word_of_ref}
pub use Rattle.object_layout.specs.ObjectLaws.{LiesThere}
pub use Rattle.object_layout.specs.Objects.{Located, changed_at, led_object, located, located_by, objects_from, objects_in, objects_of, with_fields}
pub use Rattle.object_layout.specs.Piece.{PieceValue, frozen_at, frozen_from, lasts}
pub use Rattle.object_layout.specs.Place.{IsCellAt, cell_at, cells_from, object_at, words_in}
pub use Rattle.object_layout.specs.References.{same_reference}
pub use Rattle.object_layout.specs.declared.word.Addr.{Addr}
pub use Rattle.object_layout.specs.declared.word.Birth.{Birth}
