-- Re-exports from `log_told` for the crates above.
pub use Rattle.log_findings.specs.below.log_told.{ToldFindings, told_race, told_use}
