pub mod run_deltas
