-- The names of lower crates that these specifications use. Declares nothing.
pub use Rattle.fork_graph.specs.Cut.{with_joins, IsCut}
pub use Rattle.fork_graph.specs.Graph.{TaskTurns, strand, first_of, last_of, Does, StrandPrecedes, IsAncestor, HasStrand, IsAttached, IsParent, IsGraphEdge}
pub use Rattle.fork_graph.specs.Nested.{IsNested, IsForkJoin}
pub use Rattle.fork_graph.specs.declared.graph.GraphStrand.{GraphStrand}
pub use Rattle.fork_graph.specs.declared.graph.GraphTurn.{GraphTurn}
pub use Rattle.fork_graph.specs.declared.graph.GraphTurn.TheVariants.{Spawn, Join}
pub use Rattle.walk_laws.specs.Reached.{IsWalk}
