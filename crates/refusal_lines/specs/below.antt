-- Re-exports from lower crates for the crates above.
pub mod program_reader
pub mod run_ledger
pub mod run_report
