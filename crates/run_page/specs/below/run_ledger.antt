-- Re-exports from `run_ledger` for the crates above.
pub use Rattle.run_ledger.specs.Journals.{refused_as_run}
pub use Rattle.run_ledger.specs.Text.{end_line}
pub use Rattle.run_ledger.specs.declared.data.RefusedAt.{RefusedAt}
