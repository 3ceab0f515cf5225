-- Re-exports from `run_report` for the crates above.
pub use Rattle.run_report.proofs.Writing.{report_shown, whole_text}
