-- Re-exports from `refinement` for the crates above.
pub use Rattle.refinement.specs.Changes.{SameObjects, SameBut, BelongingsAreRead, EndsBelongings, ForksBelongings, HasResult, IsLifted, JoinsBelongings, KeepsJust, StepsInBelongings, StoresAt, StoresNumberAt, WritesAt, advanced, child_belongings, gone_on, top_with_results, with_field, with_int_field}
pub use Rattle.refinement.specs.Copies.{PartFits, CopyFits, EndsAt, IsCopy, part_before}
pub use Rattle.refinement.specs.Counts.{CountsGo, IsMarked, IsQuiet, TakesNode, AsksUnits}
pub use Rattle.refinement.specs.EntryMakes.{BelongingsAfter, EntryMakes, taken_by, BelongingsAfterStore, StepsTo, Stores, StoresInto}
pub use Rattle.refinement.specs.Fits.{FitsAt, with_belongings, Part, ahead, part_for}
pub use Rattle.refinement.specs.Frames.{IsSteady, NotOf, all_ahead, with_all_belongings}
pub use Rattle.refinement.specs.Layout.{AreLaidOut, reserved_chunks, reserved_units, DontOverlap, HoldsLarge, words}
pub use Rattle.refinement.specs.LeafCollectionBegins.{IsReachedAt, AreRoots, IsRememberedRoot, HoldsAt, LeadsAt, StartsAt}
pub use Rattle.refinement.specs.Marks.{Marks, StoreMarks}
pub use Rattle.refinement.specs.Memory.{In, objects_of_chunks, Memory, Chunk, mapped_chunk, mapped_belongings, put_at, rewritten_belongings, Belongings, is_source, rewritten, rewritten_refs, Noted, object_name, objects, Lies, shown_at, chunk_among, frozen_chunks, as_shown, sources, seen_at, seen_in, no_belongings, copied_object}
pub use Rattle.refinement.specs.RanCounts.{RanCounts, TasksOutGo, LetsGo, NodeGoes, NodesFork, NodesJoin, node_then}
pub use Rattle.refinement.specs.ReadsReference.{AllRead, TaskIsRead, FrameIsRead, FramesAreRead, HoldsRead, IsModelObject, ReadsReference}
pub use Rattle.refinement.specs.Since.{NotedAt, MarksOn, NotesStay, ForksNotes, JoinsNotes, KeepsOldValue, OthersNotes, StoresNotes, kept}
pub use Rattle.refinement.specs.MemoryStands.{MemoryStands, BelongingsStand, chunk_names, small_chunks, ChunksHaveNames, large_chunks, LiesWithOwner, IsSource, LevelHasChunk}
pub use Rattle.refinement.specs.Whole.{StandsFor, as_node, by_end, handed, state_by, BegunBy, StandsForAll, TreeCounts, LeafCollectionBegins, BegunStands}
pub use Rattle.refinement.specs.Worker.{WorkerFits, IsBy, WorkersFit}
pub use Rattle.refinement.specs.Marking.{CanGoOnMarking, MarkedBy, MarksStand}
