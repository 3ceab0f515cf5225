-- Re-exports from `remembered_set` for the crates above.
pub use Rattle.remembered_set.proofs.LiftLemmas.{lifted_are_there, source_in}
pub use Rattle.remembered_set.proofs.Noting.{same_self}
