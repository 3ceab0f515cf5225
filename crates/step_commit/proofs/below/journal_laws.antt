-- Re-exports from `journal_laws` for the crates above.
pub use Rattle.journal_laws.proofs.Counted.{journals_are_counted}
pub use Rattle.journal_laws.proofs.Since.{since_is_few}
