-- Re-exports from `log_size_laws` for the crates above.
pub use Rattle.log_size_laws.proofs.Small.{small_logs_are_not_too_large}
