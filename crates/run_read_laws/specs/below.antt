-- Re-exports from lower crates for the crates above.
pub mod hh_model
pub mod run_log_laws
pub mod run_turn_laws
