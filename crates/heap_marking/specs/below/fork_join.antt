-- Re-exports from `fork_join` for the crates above.
pub use Rattle.core_invariant.specs.below.fork_join.{Child, EndedChild, joined_nodes}
