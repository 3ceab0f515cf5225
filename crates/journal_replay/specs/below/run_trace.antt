-- Re-exports from `run_trace` for the crates above.
pub use Rattle.heap_reading.specs.below.run_trace.{SettingsValue}
