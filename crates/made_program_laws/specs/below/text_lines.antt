-- Re-exports from `text_lines` for the crates above.
pub use Rattle.text_lines.specs.Lines.{lines_of, most_bytes}
