-- Re-exports from lower crates for the crates above.
pub mod refinement
pub mod heap_reading
pub mod ledger_step_laws
