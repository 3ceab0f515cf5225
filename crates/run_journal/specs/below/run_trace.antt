-- Re-exports from `run_trace` for the crates above.
pub use Rattle.run_trace.specs.Entry.{EntryValue, IsEntry}
pub use Rattle.run_trace.specs.Line.{kind_name, spaced}
pub use Rattle.run_trace.specs.Settings.{AreSettings, SettingsValue, field_limit, worker_limit}
pub use Rattle.run_trace.specs.declared.entry.Kind.TheVariants.{Begin, Chunk, End, Fuel, Mark, More, PutOff, Ran, Sweep, Took}
pub use Rattle.run_trace.specs.declared.entry.Kind.{Kind}
