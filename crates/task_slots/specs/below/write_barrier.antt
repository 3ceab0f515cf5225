-- Re-exports from `write_barrier` for the crates above.
pub use Rattle.write_barrier.specs.Forms.{bare_noted}
pub use Rattle.write_barrier.specs.Stored.{Content, PointsIntoOwned, content_after, content_at, content_of, heap_of, is_down, noted_in, with_source}
pub use Rattle.write_barrier.specs.declared.sets.SetOf.{SetOf}
