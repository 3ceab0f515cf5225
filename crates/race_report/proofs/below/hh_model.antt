-- Re-exports from `hh_model` for the crates above.
pub use Rattle.run_journal.proofs.below.hh_model.{run_on}
