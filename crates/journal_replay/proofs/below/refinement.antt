-- Re-exports from `refinement` for the crates above.
pub use Rattle.heap_reading.proofs.below.refinement.{held_object, object_held}
