-- Re-exports from `fork_join_commit` for the crates above.
pub use Rattle.shared_tree.proofs.below.fork_join_commit.{same_world}
