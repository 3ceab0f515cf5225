pub mod run_ledger
pub mod run_trace
pub mod run_deltas
