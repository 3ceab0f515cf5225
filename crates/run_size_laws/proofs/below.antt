-- Re-exports from lower crates for the crates above.
pub mod log_size_laws
