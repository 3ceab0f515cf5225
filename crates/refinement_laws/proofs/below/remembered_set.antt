-- Re-exports from `remembered_set` for the crates above.
pub use Rattle.refinement.proofs.below.remembered_set.{lifted_are_there, same_self, source_in}
