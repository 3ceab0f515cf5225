-- Re-exports from `journal_laws` for the crates above.
pub use Rattle.journal_laws.specs.Frozen.{begins}
