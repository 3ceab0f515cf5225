-- Re-exports from `race_report` for the crates above.
pub use Rattle.race_report.proofs.Raceless.{machine_ended}
