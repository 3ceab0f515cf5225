-- Re-exports from `chunk_list` for the crates above.
pub use Rattle.core_invariant.specs.below.chunk_list.{Level, view_below}
