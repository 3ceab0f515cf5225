-- Re-exports from `journal_laws` for the crates above.
pub use Rattle.run_journal.proofs.below.journal_laws.{held_is_undropped, fewer_steps_are_legal}
