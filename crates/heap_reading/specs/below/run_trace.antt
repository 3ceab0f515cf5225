-- Re-exports from `run_trace` for the crates above.
pub use Rattle.core_invariant.specs.below.run_trace.{Begin, Chunk, End, EntryValue, Fuel, IsKind, Kind, Mark, More, PutOff, Ran, SettingsValue, Sweep, Took, field_limit, mark_limit, private_limit}
