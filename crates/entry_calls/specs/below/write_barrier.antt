-- Re-exports from `write_barrier` for the crates above.
pub use Rattle.heap_marking.specs.below.write_barrier.{SetOf, content_of, content_after, content_at, bare_noted}
