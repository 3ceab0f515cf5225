-- The names of lower crates that these specifications use. Declares nothing.
pub use Rattle.fork_graph.specs.Graph.{tasks_in, StrandPrecedes, IsAttached}
pub use Rattle.fork_graph.specs.declared.graph.GraphStrand.{GraphStrand}
pub use Rattle.log_pieces.specs.Pieces.{on_strand}
pub use Rattle.log_strands.specs.Places.{is_known, StrandStandsAt}
pub use Rattle.log_strands.specs.below.log_form.{Event, event}
pub use Rattle.log_strands.specs.below.log_lines.{Act}
pub use Rattle.log_tasks.specs.Numbers.{log_strand}
pub use Rattle.log_tasks.specs.declared.tasks.LogTasks.{LogTasks}
pub use Rattle.log_walk.specs.Tables.{strand_at}
pub use Rattle.log_walk.specs.Value.{WalkValue, IsWalked}
pub use Rattle.plain_vec.specs.Members.{In}
pub use Rattle.plain_vec.specs.Options.{option_is}
