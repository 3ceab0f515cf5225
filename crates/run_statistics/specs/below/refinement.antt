-- Re-exports from `refinement` for the crates above.
pub use Rattle.heap_reading.specs.below.refinement.{BelongingsStand, In, IsModelObject, IsSource, Memory, NotOf, Part, LiesWithOwner, MemoryStands, WorkerFits, WorkersFit, ahead, all_ahead, by_end, handed, object_name, objects, with_all_belongings}
