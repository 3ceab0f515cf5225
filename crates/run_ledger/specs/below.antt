-- Re-exports from lower crates for the crates above.
pub mod plain_vec
pub mod walk_laws
pub mod run_trace
