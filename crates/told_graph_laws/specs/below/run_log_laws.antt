-- Re-exports from `run_log_laws` for the crates above.
pub use Rattle.run_log_laws.specs.Whole.{IsCutRun}
