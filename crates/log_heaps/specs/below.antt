-- Re-exports from lower crates for the crates above.
pub mod log_tasks
pub mod log_walk
