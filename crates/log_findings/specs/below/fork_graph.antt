-- Re-exports from `fork_graph` for the crates above.
pub use Rattle.log_left.specs.below.fork_graph.{Cut, Extent, Whole}
