-- Re-exports from `run_trace` for the crates above.
pub use Rattle.run_trace.specs.Entry.{EntryValue, IsKind, mark_limit, private_limit}
pub use Rattle.run_trace.specs.Settings.{AreSettings, SettingsValue, field_limit, fuel_limit, worker_limit}
pub use Rattle.run_trace.specs.declared.entry.Kind.{Kind}
pub use Rattle.run_trace.specs.declared.entry.Kind.TheVariants.{Begin, Chunk, End, Fuel, Mark, More, PutOff, Ran, Sweep, Took}
pub use Rattle.run_trace.specs.contracts.entry.Entry as EntryContracts
pub use Rattle.run_trace.specs.contracts.settings.Settings as SettingsContracts
pub use Rattle.run_trace.specs.declared.settings.Version.{Version}
pub use Rattle.run_trace.specs.declared.settings.Version.TheVariants.{One, Two}
