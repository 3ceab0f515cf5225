-- Re-exports from `log_tasks` for the crates above.
pub use Rattle.log_left.specs.below.log_tasks.{IsLog, LogTasks}
