-- Re-exports from `refinement` for the crates above.
pub use Rattle.core_invariant.proofs.below.refinement.{all_set, at_belongings, field_of, goes_on, in_chunk, in_objects, lies_in, name_at, off_belongings}
pub use Rattle.core_invariant.proofs.below.refinement.Store as Store
