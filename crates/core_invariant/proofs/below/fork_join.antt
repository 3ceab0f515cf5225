-- Re-exports from `fork_join` for the crates above.
pub use Rattle.fork_join.proofs.Owners.{joined_are_owned}
pub use Rattle.fork_join.proofs.Room.{behind}
