-- Re-exports from lower crates for the crates above.
pub mod hh_model
pub mod race_report
