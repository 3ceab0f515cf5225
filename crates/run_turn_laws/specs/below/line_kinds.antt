-- Re-exports of the kinds of lines of `log_lines` for the crates above.
pub use Rattle.log_lines.specs.declared.line.LogLine.TheVariants.{Version, Strand, Act, Name, Comment, End}
