-- Re-exports from lower crates for the crates above.
pub mod log_places
pub mod race_cells
pub mod race_report
pub mod run_turn_laws
