-- Re-exports from `log_told` for the crates above.
pub use Rattle.log_told.specs.Told.{told_race, told_use}
pub use Rattle.log_told.specs.declared.telling.ToldFindings.{ToldFindings}
