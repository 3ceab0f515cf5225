-- Re-exports from lower crates for the crates above.
pub mod refinement_laws
pub mod refinement
pub mod hh_model
pub mod journal_laws
pub mod ledger_step_laws
pub mod plain_vec
pub mod path_laws
pub mod run_ledger
pub mod core_invariant
pub mod task_machine
