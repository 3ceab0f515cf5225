-- Re-exports from `run_trace` for the crates above.
pub use Rattle.run_trace.specs.Entry.{EntryValue, IsEntry}
pub use Rattle.run_trace.specs.Settings.{SettingsValue, field_limit, usual_settings}
pub use Rattle.run_trace.specs.Trace.{AreTraceLines, trace_text}
pub use Rattle.run_trace.specs.declared.entry.Kind.TheVariants.{Begin, Chunk, End, Fuel, Mark, More, PutOff, Ran, Sweep, Took}
pub use Rattle.run_trace.specs.declared.entry.Kind.{Kind}
pub use Rattle.run_trace.specs.declared.settings.Version.TheVariants.{Two}
pub use Rattle.run_trace.specs.declared.settings.Version.{Version}
pub use Rattle.run_trace.specs.declared.trace.Trace.{Trace}
