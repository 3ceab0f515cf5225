-- Re-exports from `leaf_heap` for the crates above.
pub use Rattle.core_invariant.specs.below.leaf_heap.{saturating_words, with_places, IsFresh, added}
