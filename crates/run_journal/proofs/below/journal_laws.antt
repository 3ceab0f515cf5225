-- Re-exports from `journal_laws` for the crates above.
pub use Rattle.journal_laws.proofs.Counted.{all_steps}
pub use Rattle.journal_laws.proofs.Drops.{held_is_undropped}
pub use Rattle.journal_laws.proofs.Fewer.{fewer_steps_are_legal}
pub use Rattle.journal_laws.proofs.Words.{words_are_accounted}
