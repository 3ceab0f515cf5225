-- Re-exports from `run_trace` for the crates above.
pub use Rattle.heap_reading.specs.below.run_trace.{Begin, Chunk, End, EntryValue, Fuel, IsKind, Kind, Mark, More, PutOff, Ran, SettingsValue, Sweep, Took, field_limit, mark_limit, private_limit}
