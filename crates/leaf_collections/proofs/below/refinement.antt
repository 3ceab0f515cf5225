-- Re-exports from `refinement` for the crates above.
pub use Rattle.core_invariant.proofs.below.refinement.{at_belongings, from_flat, in_chunk, in_objects}
