-- Re-exports from `run_trace` for the crates above.
pub use Rattle.core_invariant.specs.below.run_trace.{Begin, Chunk, EntryValue, Fuel, Kind, Mark, More, PutOff, Ran, SettingsValue, Sweep, Took, field_limit, fuel_limit, mark_limit, private_limit, worker_limit, End}
pub use Rattle.core_invariant.specs.below.run_trace.EntryContracts as EntryContracts
pub use Rattle.core_invariant.specs.below.run_trace.SettingsContracts as SettingsContracts
