-- Re-exports from `or_no_memory` for the crates above.
pub use Rattle.run_trace.specs.below.or_no_memory.{NoMemory, OrNoMemory, Refused, Reports}
