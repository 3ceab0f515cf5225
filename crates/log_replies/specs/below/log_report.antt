-- Re-exports from `log_report` for the crates above.
pub use Rattle.log_report.specs.declared.told.LogReport.{LogReport}
pub use Rattle.log_report.specs.declared.told.ToldRace.{ToldRace}
pub use Rattle.log_report.specs.declared.told.ToldUse.{ToldUse}
