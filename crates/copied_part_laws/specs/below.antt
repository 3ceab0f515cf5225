-- Re-exports from lower crates for the crates above.
pub mod leaf_heap
pub mod chunk_list
pub mod hh_lang
pub mod leaf_collections
pub mod copying_gc
pub mod ledger_step_laws
pub mod object_layout
pub mod run_ledger
pub mod run_trace
pub mod core_invariant
pub mod task_frames
pub mod task_slots
pub mod task_machine
