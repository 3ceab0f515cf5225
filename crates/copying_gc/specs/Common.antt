-- The names of lower crates that these specifications use. Declares nothing.
pub use Rattle.address_laws.specs.Alike.{HaveSameShape}
pub use Rattle.leaf_heap.specs.LeafHeapValue.{LeafHeapValue, HaveDistinctNumbers, IsFresh, IsSettled, with_places}
pub use Rattle.object_layout.specs.Cell.{Moved, size_of, with_mark, chunk_words, Born, Cell, IsObject, units, moved_to, Hole, Mark}
pub use Rattle.object_layout.specs.ChunkValue.{ChunkValue}
pub use Rattle.object_layout.specs.Chunks.{cell_of, same_address, put_object, chunk_at, place_in, object_count, small_part, sum_of, held_words, small_words, chunk_position}
pub use Rattle.object_layout.specs.Place.{cell_at, words_in}
pub use Rattle.object_layout.specs.declared.word.Addr.{Addr}
pub use Rattle.object_layout.specs.declared.word.Birth.{Birth}
pub use Rattle.remembered_set.specs.Moved.{AreAscending, new_of}
pub use Rattle.task_frames.specs.FramesValue.{FramesValue, frames_of}
pub use Rattle.task_frames.specs.declared.frames.CallFrame.{CallFrame}
pub use Rattle.walk_laws.specs.Reached.{IsReached}
