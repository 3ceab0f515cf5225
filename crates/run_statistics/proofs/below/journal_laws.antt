-- Re-exports from `journal_laws` for the crates above.
pub use Rattle.heap_reading.proofs.below.journal_laws.{idle_at, journals_are_counted, length_opening, not_refused, owed_can_be_given, pace_goes_on, pace_same}
