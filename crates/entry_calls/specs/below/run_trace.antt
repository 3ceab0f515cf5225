-- Re-exports from `run_trace` for the crates above.
pub use Rattle.leaf_collections.specs.below.run_trace.{Begin, Chunk, End, EntryValue, Fuel, Kind, Mark, More, PutOff, Ran, SettingsValue, Sweep, Took, field_limit, private_limit}
pub use Rattle.heap_marking.specs.below.run_trace.{fuel_limit, worker_limit, mark_limit}
