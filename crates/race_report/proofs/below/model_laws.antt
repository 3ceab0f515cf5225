-- Re-exports from `model_laws` for the crates above.
pub use Rattle.model_laws.proofs.Stopped.{reads_are_decided}
