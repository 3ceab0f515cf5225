-- Re-exports from `race_report` for the crates above.
pub use Rattle.race_report.specs.Accesses.{accesses}
pub use Rattle.race_report.specs.Races.{RaceAt}
pub use Rattle.race_report.specs.declared.data.Field.{Field}
pub use Rattle.race_report.specs.declared.data.FieldAccess.{FieldAccess}
