-- Re-exports from `run_trace` for the crates above.
pub use Rattle.refinement.specs.below.run_trace.{Took, EntryValue, AreSettings, SettingsValue, field_limit, Ran, Fuel, Kind, Chunk, Begin, End, PutOff, Mark, More, Sweep, IsKind, fuel_limit, mark_limit, private_limit, worker_limit}
pub use Rattle.refinement.specs.below.run_trace.EntryContracts as EntryContracts
pub use Rattle.refinement.specs.below.run_trace.SettingsContracts as SettingsContracts
