-- Re-exports from `fork_join` for the crates above.
pub use Rattle.core_invariant.proofs.below.fork_join.{behind, joined_are_owned}
