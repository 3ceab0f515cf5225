-- Re-exports from `write_barrier` for the crates above.
pub use Rattle.core_invariant.specs.below.write_barrier.{SetOf, content_of, content_after, content_at, bare_noted}
