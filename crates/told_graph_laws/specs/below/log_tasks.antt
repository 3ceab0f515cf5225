-- Re-exports from `log_tasks` for the crates above.
pub use Rattle.log_tasks.specs.Log.{IsLog}
pub use Rattle.log_tasks.specs.Numbers.{log_strand}
pub use Rattle.log_tasks.specs.Rows.{known_of}
pub use Rattle.log_tasks.specs.declared.tasks.LogTasks.{LogTasks}
