-- Re-exports from `fork_graph` for the crates above.
pub use Rattle.fork_graph.specs.declared.fault.Extent.TheVariants.{Whole}
