-- Re-exports from `told_graph_laws` for the crates above.
pub use Rattle.told_graph_laws.specs.below.fork_graph.{Extent, StrandPrecedes}
pub use Rattle.told_graph_laws.specs.below.log_form.{Event}
pub use Rattle.told_graph_laws.specs.below.log_tasks.{IsLog, LogTasks}
pub use Rattle.told_graph_laws.specs.below.run_turn_laws.{Act, turns_told, Access, Yield, Store, Birth, Release, Work, Spawn, Join, Finish}
