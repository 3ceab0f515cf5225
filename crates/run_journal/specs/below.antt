-- Re-exports from lower crates for the crates above.
pub mod hh_lang
pub mod hh_model
pub mod or_no_memory
pub mod run_ledger
pub mod run_trace
