-- Re-exports from lower crates for the crates above.
pub mod run_limit_laws
pub mod run_trace
