-- Re-exports from `run_trace` for the crates above.
pub use Rattle.leaf_collections.specs.below.run_trace.{EntryValue, Kind, SettingsValue, private_limit}
pub use Rattle.leaf_collections.specs.below.run_trace.EntryContracts as EntryContracts
pub use Rattle.leaf_collections.specs.below.run_trace.SettingsContracts as SettingsContracts
