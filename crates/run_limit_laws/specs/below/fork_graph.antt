-- Re-exports from `fork_graph` for the crates above.
pub use Rattle.run_log_laws.specs.below.fork_graph.{GraphStrand, GraphTurn, Join, Spawn}
