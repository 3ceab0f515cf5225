-- Re-exports from `run_ledger` for the crates above.
pub use Rattle.run_ledger.specs.Journals.{end_of}
pub use Rattle.run_ledger.specs.Pace.{is_paced}
pub use Rattle.run_ledger.specs.declared.data.RunEnd.{RunEnd}
