-- Re-exports from lower crates for the crates above.
pub mod fork_join_commit
pub mod heap_marking
pub mod leaf_collections
pub mod step_commit
pub mod entry_calls
