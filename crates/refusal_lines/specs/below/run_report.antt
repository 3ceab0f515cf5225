-- Re-exports from `run_report` for the crates above.
pub use Rattle.run_report.specs.Totals.{report_from, totals_from}
pub use Rattle.run_report.specs.Written.{report_part, text_from, trace_part}
pub use Rattle.run_report.specs.declared.whole.Extras.{Extras}
