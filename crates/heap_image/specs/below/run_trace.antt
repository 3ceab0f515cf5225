-- Re-exports from `run_trace` for the crates above.
pub use Rattle.run_trace.specs.Settings.{field_limit}
pub use Rattle.run_trace.specs.declared.settings.Version.TheVariants.{One, Two}
pub use Rattle.run_trace.specs.declared.settings.Version.{Version}
