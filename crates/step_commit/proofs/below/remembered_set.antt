-- Re-exports from `remembered_set` for the crates above.
pub use Rattle.core_invariant.proofs.below.remembered_set.{lifted_are_there, source_in}
