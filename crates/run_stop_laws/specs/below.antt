-- Re-exports from lower crates for the crates above.
pub mod run_read_laws
