-- Re-exports from lower crates for the crates above.
pub mod heap_marking
pub mod hh_model
pub mod journal_laws
pub mod leaf_collections
pub mod plain_vec
pub mod step_commit
pub mod run_ledger
pub mod core_invariant
pub mod fork_join_commit
pub mod task_machine
