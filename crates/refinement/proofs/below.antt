-- Re-exports from lower crates for the crates above.
pub mod heap_tree
pub mod hh_lang
pub mod hh_model
pub mod mark_sweep_gc
pub mod ledger_step_laws
pub mod plain_vec
pub mod object_layout
pub mod remembered_set
pub mod run_ledger
pub mod run_trace
pub mod task_machine
pub mod walk_laws
