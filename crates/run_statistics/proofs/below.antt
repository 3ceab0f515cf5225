-- Re-exports from lower crates for the crates above.
pub mod fork_join_commit
pub mod refinement_laws
pub mod refinement
pub mod heap_marking
pub mod heap_reading
pub mod hh_model
pub mod journal_laws
pub mod leaf_collections
pub mod ledger_step_laws
pub mod plain_vec
pub mod step_commit
pub mod run_ledger
pub mod shared_tree
pub mod core_invariant
pub mod task_machine
