-- Re-exports from `fork_join_commit` for the crates above.
pub use Rattle.entry_calls.proofs.below.fork_join_commit.{same_world}
