-- Re-exports from `run_trace` for the crates above.
pub use Rattle.run_trace.specs.Entry.{IsEntry}
