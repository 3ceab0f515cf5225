-- Re-exports from `fork_graph` for the crates above.
pub use Rattle.fork_graph.specs.Graph.{TaskTurns, strand, tasks_in, IsParent, IsAncestor, StrandPrecedes, IsAttached}
pub use Rattle.fork_graph.specs.declared.fault.Extent.{Extent}
pub use Rattle.fork_graph.specs.declared.graph.GraphStrand.{GraphStrand}
pub use Rattle.fork_graph.specs.declared.graph.GraphTurn.{GraphTurn}
pub use Rattle.fork_graph.specs.Nested.{IsForkJoin, IsNested}
