-- The names of lower crates that these specifications use. Declares nothing.
pub use Rattle.chunk_list.specs.View.{Level}
pub use Rattle.chunk_pool.specs.PoolValue.{PoolValue, slot_at, units_in_use, owner_of}
pub use Rattle.chunk_pool.specs.declared.pool.Slot.{Slot}
pub use Rattle.heap_tree.specs.TaskNode.{TaskNode, parent_of, state_of, with_state}
pub use Rattle.heap_tree.specs.Pairs.{sibling, is_left}
pub use Rattle.heap_tree.specs.Walk.{IsUpFrom}
pub use Rattle.heap_tree.specs.declared.state.TaskState.{TaskState}
pub use Rattle.heap_tree.specs.declared.state.TaskState.TheVariants.{Ready, Out, Waiting, Ended, Joined}
pub use Rattle.leaf_heap.specs.LeafHeapValue.{LeafHeapValue, merged, room_of, with_places}
pub use Rattle.object_layout.specs.ChunkValue.{ChunkValue}
pub use Rattle.object_layout.specs.Chunks.{has_chunk}
pub use Rattle.object_layout.specs.declared.word.Addr.{Addr}
pub use Rattle.remembered_set.specs.Sources.{lifted}
pub use Rattle.remembered_set.specs.declared.remembered.RefField.{RefField}
pub use Rattle.task_frames.specs.FramesValue.{FramesValue, branched}
