-- Re-exports from lower crates for the crates above.
pub mod log_findings
pub mod log_weights
