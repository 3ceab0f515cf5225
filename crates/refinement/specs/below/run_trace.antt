-- Re-exports from `run_trace` for the crates above.
pub use Rattle.run_ledger.specs.below.run_trace.{AreSettings, Begin, Chunk, End, EntryValue, Fuel, IsKind, Kind, Mark, More, PutOff, Ran, SettingsValue, Sweep, Took, field_limit, fuel_limit, mark_limit, private_limit, worker_limit}
pub use Rattle.run_ledger.specs.below.run_trace.EntryContracts as EntryContracts
pub use Rattle.run_ledger.specs.below.run_trace.SettingsContracts as SettingsContracts
