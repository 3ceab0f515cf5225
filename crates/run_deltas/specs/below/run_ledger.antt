-- Re-exports from `run_ledger` for the crates above.
pub use Rattle.run_ledger.specs.Journals.{tasks_in, tasks_of, opening, is_legal_from, is_legal, machine_of, end_of}
pub use Rattle.run_ledger.specs.declared.data.Ledger.{Ledger}
pub use Rattle.run_ledger.specs.Entries.{refusal, after}
pub use Rattle.run_ledger.specs.declared.data.RunEnd.TheVariants.{Machine}
