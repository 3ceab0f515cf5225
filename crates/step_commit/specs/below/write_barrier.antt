-- Re-exports from `write_barrier` for the crates above.
pub use Rattle.core_invariant.specs.below.write_barrier.{Content, PointsIntoOwned, SetOf, bare_noted, content_after, content_at, content_of, heap_of, is_down, noted_in, with_source}
