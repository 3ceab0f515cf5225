-- Re-exports from `run_trace` for the crates above.
pub use Rattle.core_invariant.specs.below.run_trace.{fuel_limit, worker_limit, mark_limit}
