-- Re-exports from `write_barrier` for the crates above.
pub use Rattle.core_invariant.specs.below.write_barrier.{SetOf, bare_noted, content_after, content_at, content_of}
