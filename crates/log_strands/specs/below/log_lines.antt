-- Re-exports from `log_lines` for the crates above.
pub use Rattle.log_lines.specs.Grammar.{line_of}
pub use Rattle.log_lines.specs.Letters.{is_among, letter_of_kind, letter_of}
pub use Rattle.log_lines.specs.declared.line.AccessKind.{AccessKind}
pub use Rattle.log_lines.specs.declared.line.Act.{Act}
pub use Rattle.log_lines.specs.declared.line.Act.TheVariants.{Access, Yield, Store, Birth, Release, Work, Spawn, Join, Finish}
