-- The names of lower crates that these specifications use. Declares nothing.
pub use Rattle.log_births.specs.Blocks.{if_some, born, released, used}
pub use Rattle.log_births.specs.Checks.{PrecedesAt}
pub use Rattle.log_births.specs.Findings.{DoesToBlock}
pub use Rattle.log_births.specs.Lines.{line_told}
pub use Rattle.log_births.specs.below.ancestor_laws.{IsLowestCommon}
pub use Rattle.log_births.specs.below.fork_graph.{GraphStrand, tasks_in, IsParent, StrandPrecedes}
pub use Rattle.log_births.specs.declared.lines.BlockLines.{BlockLines}
pub use Rattle.log_births.specs.declared.lines.LineAt.{LineAt}
pub use Rattle.log_report.specs.declared.heaps.HeapDepth.{HeapDepth}
pub use Rattle.log_report.specs.declared.heaps.LogHeaps.{LogHeaps}
pub use Rattle.log_strands.specs.below.log_form.{Event}
pub use Rattle.log_strands.specs.below.log_lines.{Act, Yield, Store, Birth}
pub use Rattle.log_tasks.specs.declared.tasks.LogTasks.{LogTasks}
pub use Rattle.log_walk.specs.Meetings.{IsDepthAt, IsExitAt}
pub use Rattle.log_walk.specs.Tables.{task_at}
pub use Rattle.log_walk.specs.Value.{WalkValue}
pub use Rattle.plain_vec.specs.Members.{In}
pub use Rattle.plain_vec.specs.Options.{option_is}
pub use Rattle.walk_laws.specs.Reached.{IsWalk}
