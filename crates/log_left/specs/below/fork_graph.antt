-- Re-exports from `fork_graph` for the crates above.
pub use Rattle.fork_graph.specs.declared.fault.Extent.{Extent}
pub use Rattle.fork_graph.specs.declared.fault.Extent.TheVariants.{Cut, Whole}
pub use Rattle.fork_graph.specs.declared.graph.GraphStrand.{GraphStrand}
pub use Rattle.fork_graph.specs.Graph.{tasks_in}
