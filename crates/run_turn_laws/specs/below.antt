-- Re-exports from lower crates for the crates above.
pub mod line_kinds
pub mod log_form
pub mod log_lines
pub mod run_deltas
pub mod run_ledger
pub mod run_log
pub mod run_trace
