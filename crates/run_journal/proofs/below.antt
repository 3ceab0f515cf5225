-- Re-exports from lower crates for the crates above.
pub mod hh_model
pub mod journal_laws
pub mod plain_vec
pub mod run_ledger
