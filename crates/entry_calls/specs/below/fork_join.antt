-- Re-exports from `fork_join` for the crates above.
pub use Rattle.heap_marking.specs.below.fork_join.{Child, EndedChild, joined_nodes}
