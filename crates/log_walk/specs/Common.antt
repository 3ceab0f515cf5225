-- The names of lower crates that these specifications use. Declares nothing.
pub use Rattle.ancestor_laws.specs.Meeting.{IsLowestCommon, IsExit}
pub use Rattle.ancestor_laws.specs.Serial.{serial_order}
pub use Rattle.fork_graph.specs.Faults.{SpawnsBelow}
pub use Rattle.fork_graph.specs.Graph.{TaskTurns, strand, IsParent, AreSmall, tasks_in, IsAncestor, first_of}
pub use Rattle.fork_graph.specs.Nested.{IsNested}
pub use Rattle.fork_graph.specs.declared.graph.GraphStrand.{GraphStrand}
pub use Rattle.fork_graph.specs.declared.graph.GraphTurn.{GraphTurn}
pub use Rattle.fork_graph.specs.declared.graph.GraphTurn.TheVariants.{Spawn, Join}
pub use Rattle.jump_pointers.specs.Lists.{up_from, depth_at, AreLinks}
pub use Rattle.jump_pointers.specs.declared.links.Link.{Link}
pub use Rattle.walk_laws.specs.Reached.{IsWalk}
