-- Re-exports from `refinement` for the crates above.
pub use Rattle.core_invariant.specs.below.refinement.{AllRead, AreRoots, Belongings, BelongingsAfterStore, BelongingsStand, Chunk, ForksBelongings, ForksNotes, FrameIsRead, FramesAreRead, ChunksHaveNames, HasResult, HoldsRead, In, IsLifted, IsSource, JoinsBelongings, JoinsNotes, KeepsOldValue, Lies, Memory, NodesFork, NodesJoin, Noted, OthersNotes, LiesWithOwner, RanCounts, ReadsReference, MemoryStands, StandsFor, StandsForAll, StoreMarks, Stores, StoresAt, StoresInto, StoresNotes, StoresNumberAt, TaskIsRead, WorkerFits, WritesAt, advanced, as_node, by_end, child_belongings, gone_on, handed, mapped_chunk, no_belongings, node_then, object_name, objects, objects_of_chunks, part_for, put_at, reserved_chunks, reserved_units, sources, state_by, top_with_results, with_belongings, with_field, with_int_field, words}
