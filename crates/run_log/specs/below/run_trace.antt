-- Re-exports from `run_trace` for the crates above.
pub use Rattle.run_trace.specs.Entry.{EntryValue}
pub use Rattle.run_trace.specs.Settings.{SettingsValue, field_limit}
pub use Rattle.run_trace.specs.declared.entry.Kind.{Kind}
pub use Rattle.run_trace.specs.declared.entry.Kind.TheVariants.{Took, Ran, Chunk, Begin, End, PutOff, Mark, More, Sweep, Fuel}
