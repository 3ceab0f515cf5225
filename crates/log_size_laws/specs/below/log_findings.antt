-- Re-exports from `log_findings` for the crates above.
pub use Rattle.log_findings.specs.Reported.{order_of}
