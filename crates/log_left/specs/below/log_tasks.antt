-- Re-exports from `log_tasks` for the crates above.
pub use Rattle.log_tasks.specs.declared.tasks.LogTasks.{LogTasks}
pub use Rattle.log_tasks.specs.Log.{IsLog}
