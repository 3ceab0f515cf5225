-- The names of lower crates that these specifications use. Declares nothing.
pub use Rattle.fork_graph.specs.Graph.{strand}
pub use Rattle.fork_graph.specs.declared.graph.GraphStrand.{GraphStrand}
pub use Rattle.log_form.specs.Events.{Event, has_ended, Spot, is_last, strand_behind, event}
pub use Rattle.log_form.specs.Faults.{spawns, is_born, is_released}
pub use Rattle.log_form.specs.declared.fault.LocatedFault.{LocatedFault}
pub use Rattle.log_lines.specs.Grammar.{line_of}
pub use Rattle.log_lines.specs.Limits.{strand_limit}
pub use Rattle.log_lines.specs.declared.cause.LogCause.{LogCause}
pub use Rattle.log_lines.specs.declared.line.Act.{Act}
pub use Rattle.log_lines.specs.declared.line.LogLine.{LogLine}
pub use Rattle.text_lines.specs.Lines.{lines_of}
