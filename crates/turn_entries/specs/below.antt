-- Re-exports from lower crates for the crates above.
pub mod entry_calls
pub mod turn_lock
