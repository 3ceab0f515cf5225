-- Re-exports from lower crates for the crates above.
pub mod leaf_heap
pub mod chunk_pool
pub mod heap_marking
pub mod heap_tree
pub mod hh_lang
pub mod mark_sweep_gc
pub mod leaf_collections
pub mod plain_vec
pub mod boxed
pub mod run_trace
pub mod core_invariant
pub mod write_barrier
