-- Re-exports from lower crates for the crates above.
pub mod fork_graph
pub mod log_form
pub mod log_tasks
pub mod log_told
pub mod log_weights
