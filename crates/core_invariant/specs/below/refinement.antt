-- Re-exports from `refinement` for the crates above.
pub use Rattle.refinement_laws.specs.below.refinement.{AreRoots, HoldsAt, IsReachedAt, IsRememberedRoot, LeadsAt, StartsAt, BelongingsAreRead, EndsBelongings, ForksBelongings, HasResult, IsLifted, JoinsBelongings, KeepsJust, SameObjects, StepsInBelongings, StoresAt, StoresNumberAt, WritesAt, advanced, child_belongings, gone_on, top_with_results, with_field, with_int_field, CopyFits, EndsAt, IsCopy, PartFits, part_before, AsksUnits, CountsGo, IsMarked, IsQuiet, Part, ahead, part_for, with_belongings, NotOf, all_ahead, with_all_belongings, DontOverlap, AreLaidOut, HoldsLarge, reserved_chunks, reserved_units, words, BelongingsAfter, BelongingsAfterStore, EntryMakes, StepsTo, Stores, StoresInto, taken_by, CanGoOnMarking, MarkedBy, MarksStand, Marks, StoreMarks, Belongings, Chunk, In, Lies, Memory, Noted, copied_object, mapped_chunk, no_belongings, object_name, objects, objects_of_chunks, put_at, rewritten_belongings, sources, NodeGoes, NodesFork, NodesJoin, RanCounts, node_then, AllRead, FrameIsRead, FramesAreRead, HoldsRead, IsModelObject, ReadsReference, TaskIsRead, ForksNotes, JoinsNotes, KeepsOldValue, OthersNotes, StoresNotes, kept, BelongingsStand, ChunksHaveNames, LevelHasChunk, IsSource, LiesWithOwner, MemoryStands, large_chunks, chunk_names, small_chunks, LeafCollectionBegins, BegunBy, BegunStands, StandsFor, StandsForAll, as_node, by_end, handed, state_by, IsBy, WorkerFits, WorkersFit}
