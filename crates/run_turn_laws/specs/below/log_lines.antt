-- Re-exports from `log_lines` for the crates above.
pub use Rattle.log_lines.specs.Limits.{IsAccess, IsAct, IsLine, IsLogNumber, IsLogPlace, IsLogReference, strand_limit}
pub use Rattle.log_lines.specs.declared.line.AccessKind.{AccessKind}
pub use Rattle.log_lines.specs.declared.line.LogLine.{LogLine}
pub use Rattle.log_lines.specs.declared.line.Act.{Act}
pub use Rattle.log_lines.specs.declared.line.Act.TheVariants.{Access, Yield, Store, Birth, Release, Work, Spawn, Join, Finish}
