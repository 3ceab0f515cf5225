-- Re-exports from `refusal_lines` for the crates above.
pub use Rattle.refusal_lines.specs.Refusals.{refusal_of}
pub use Rattle.refusal_lines.specs.declared.refusal.Refusal.TheVariants.{Entry, Image, Source, Words}
