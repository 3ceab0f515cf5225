-- Re-exports from `fork_graph` for the crates above.
pub use Rattle.fork_graph.specs.Graph.{HasStrand, IsAncestor, StrandPrecedes, TaskTurns, strand, tasks_in}
pub use Rattle.fork_graph.specs.declared.fault.Extent.{Extent}
pub use Rattle.fork_graph.specs.declared.fault.Extent.TheVariants.{Whole, Cut}
pub use Rattle.fork_graph.specs.declared.graph.GraphStrand.{GraphStrand}
