-- Re-exports from lower crates for the crates above.
pub mod or_no_memory
