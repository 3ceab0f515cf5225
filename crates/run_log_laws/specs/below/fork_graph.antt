-- Re-exports from `fork_graph` for the crates above.
pub use Rattle.fork_graph.specs.Graph.{StrandPrecedes, TaskTurns, strand}
pub use Rattle.fork_graph.specs.declared.graph.GraphStrand.{GraphStrand}
pub use Rattle.fork_graph.specs.declared.graph.GraphTurn.{GraphTurn}
pub use Rattle.fork_graph.specs.declared.graph.GraphTurn.TheVariants.{Join, Spawn}
