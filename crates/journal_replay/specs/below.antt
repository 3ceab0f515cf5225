-- Re-exports from lower crates for the crates above.
pub mod refinement
pub mod hh_lang
pub mod ledger_step_laws
pub mod object_layout
pub mod run_trace
pub mod core_invariant
