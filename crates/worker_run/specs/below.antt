-- Re-exports from lower crates for the crates above.
pub mod core_invariant
pub mod task_machine
pub mod turn_entries
pub mod turn_lock
