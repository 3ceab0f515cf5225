-- Re-exports from `text_lines` for the crates above.
pub use Rattle.text_lines.specs.Lines.{most_bytes}
