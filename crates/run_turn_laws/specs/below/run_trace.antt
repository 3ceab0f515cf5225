-- Re-exports from `run_trace` for the crates above.
pub use Rattle.run_log.specs.below.run_trace.{EntryValue, SettingsValue, field_limit, Kind, Took, Ran, Chunk, Begin, End, PutOff, Mark, More, Sweep, Fuel}
