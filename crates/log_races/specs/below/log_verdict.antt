-- Re-exports from `log_verdict` for the crates above.
pub use Rattle.log_verdict.specs.Verdict.{AreVerdicts}
