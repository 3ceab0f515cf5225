-- Re-exports from `run_trace` for the crates above.
pub use Rattle.core_invariant.specs.below.run_trace.{EntryValue, private_limit}
