-- The names of lower crates that these specifications use. Declares nothing.
pub use Rattle.fork_graph.specs.Cut.{spawned_by, completed}
pub use Rattle.fork_graph.specs.Faults.{IsFault, SpawnsBelow}
pub use Rattle.fork_graph.specs.Graph.{tasks_in, last_of, strand, AreSmall, Does}
pub use Rattle.fork_graph.specs.Nested.{IsNested}
pub use Rattle.fork_graph.specs.declared.fault.Extent.{Extent}
pub use Rattle.fork_graph.specs.declared.fault.Extent.TheVariants.{Whole, Cut}
pub use Rattle.fork_graph.specs.declared.fault.StrandCause.{StrandCause}
pub use Rattle.fork_graph.specs.declared.fault.StrandFault.{StrandFault}
pub use Rattle.fork_graph.specs.declared.graph.GraphStrand.{GraphStrand}
pub use Rattle.fork_graph.specs.declared.graph.GraphTurn.{GraphTurn}
pub use Rattle.fork_graph.specs.declared.graph.GraphTurn.TheVariants.{Spawn, Join}
pub use Rattle.log_form.specs.Events.{Event, acts_on, events_of}
pub use Rattle.log_form.specs.Faults.{spawns, is_spawned}
pub use Rattle.log_lines.specs.Limits.{strand_limit}
pub use Rattle.log_lines.specs.declared.line.Act.{Act}
pub use Rattle.log_pieces.specs.Claims.{is_pair, is_that}
pub use Rattle.plain_vec.specs.Members.{In}
