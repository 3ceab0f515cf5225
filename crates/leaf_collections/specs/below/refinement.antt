-- Re-exports from `refinement` for the crates above.
pub use Rattle.core_invariant.specs.below.refinement.{AllRead, DontOverlap, AreLaidOut, BegunStands, Belongings, BelongingsStand, Chunk, CopyFits, FramesAreRead, CanGoOnMarking, ChunksHaveNames, HoldsLarge, HoldsRead, In, HoldsAt, IsCopy, IsReachedAt, LeadsAt, Memory, PartFits, LiesWithOwner, MemoryStands, StartsAt, TaskIsRead, part_before, copied_object, kept, chunk_names, object_name, objects_of_chunks, part_for, reserved_chunks, reserved_units, small_chunks, with_belongings, words}
