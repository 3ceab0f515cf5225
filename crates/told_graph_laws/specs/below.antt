-- Re-exports from lower crates for the crates above.
pub mod fork_graph
pub mod log_form
pub mod log_tasks
pub mod run_log_laws
pub mod run_turn_laws
