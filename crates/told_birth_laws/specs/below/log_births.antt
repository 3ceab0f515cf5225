-- Re-exports from `log_births` for the crates above.
pub use Rattle.log_births.specs.Blocks.{born, released, used, yielded}
pub use Rattle.log_births.specs.Findings.{AreFindings, IsEntangled, IsEntangledRead}
pub use Rattle.log_births.specs.declared.findings.Finding.{Finding}
pub use Rattle.log_births.specs.declared.findings.Findings.{Findings}
