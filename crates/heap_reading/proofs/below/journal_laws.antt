-- Re-exports from `journal_laws` for the crates above.
pub use Rattle.journal_laws.proofs.Accepted.{not_refused}
pub use Rattle.journal_laws.proofs.Counted.{journals_are_counted}
pub use Rattle.journal_laws.proofs.History.{idle_then}
pub use Rattle.journal_laws.proofs.OwedEntries.{owed_can_be_given}
pub use Rattle.journal_laws.proofs.PaceLaw.{idle_at, length_opening, pace_same}
pub use Rattle.journal_laws.proofs.Paced.{pace_goes_on}
pub use Rattle.journal_laws.proofs.Waiters.{waiters_are_free}
