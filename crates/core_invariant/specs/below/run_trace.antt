-- Re-exports from `run_trace` for the crates above.
pub use Rattle.refinement_laws.specs.below.run_trace.{Begin, Chunk, End, EntryValue, Fuel, IsKind, Kind, Mark, More, PutOff, Ran, SettingsValue, Sweep, Took, field_limit, fuel_limit, mark_limit, private_limit, worker_limit}
pub use Rattle.refinement_laws.specs.below.run_trace.EntryContracts as EntryContracts
pub use Rattle.refinement_laws.specs.below.run_trace.SettingsContracts as SettingsContracts
