-- Re-exports from `refinement` for the crates above.
pub use Rattle.core_invariant.specs.below.refinement.{AllRead, Belongings, BelongingsStand, Chunk, In, IsModelObject, IsSource, Memory, NotOf, Part, LiesWithOwner, MemoryStands, WorkerFits, WorkersFit, ahead, all_ahead, by_end, handed, object_name, objects, objects_of_chunks, sources, with_all_belongings, with_belongings, words}
