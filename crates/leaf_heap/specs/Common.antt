-- The names of lower crates that these specifications use. Declares nothing.
pub use Rattle.chunk_list.specs.below.frozen_views.{PiecesValue, ShowsChunks}
pub use Rattle.object_layout.specs.Cell.{with_ref, Cell, IsObject, moved_to, size_of, chunk_words}
pub use Rattle.object_layout.specs.ChunkValue.{ChunkValue}
pub use Rattle.object_layout.specs.Chunks.{held_words, object_count, small_words, cell_of, object_of, put_object, chunk_at, place_in, push_object}
pub use Rattle.object_layout.specs.Place.{words_in}
pub use Rattle.object_layout.specs.declared.word.Addr.{Addr}
pub use Rattle.saturating_counts.specs.Counts.{last_count}
