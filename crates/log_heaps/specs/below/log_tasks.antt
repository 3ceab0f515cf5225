-- Re-exports from `log_tasks` for the crates above.
pub use Rattle.log_tasks.specs.Numbers.{log_strand, told_number}
pub use Rattle.log_tasks.specs.Rows.{AreNestedTasks, acts_if_known, known_of}
