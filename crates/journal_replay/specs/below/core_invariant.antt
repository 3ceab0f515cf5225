-- Re-exports from `core_invariant` for the crates above.
pub use Rattle.heap_reading.specs.below.core_invariant.{IsSharedValue, SharedValue, accounts, value_of, without_journal}
