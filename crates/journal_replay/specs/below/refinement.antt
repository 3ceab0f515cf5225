-- Re-exports from `refinement` for the crates above.
pub use Rattle.heap_reading.specs.below.refinement.{BelongingsStand, In, IsModelObject, Memory, LiesWithOwner, handed, object_name, objects}
