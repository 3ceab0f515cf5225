-- Re-exports from lower crates for the crates above.
pub mod hh_lang
pub mod run_ledger
pub mod run_trace
pub mod trace_input
