-- Re-exports from lower crates for the crates above.
pub mod path_laws
pub mod hh_model
pub mod task_frames
pub mod task_machine
pub mod refinement
pub mod heap_tree
pub mod hh_lang
pub mod ledger_step_laws
pub mod mark_sweep_gc
pub mod object_layout
pub mod plain_vec
pub mod remembered_set
pub mod run_ledger
pub mod run_trace
pub mod walk_laws
