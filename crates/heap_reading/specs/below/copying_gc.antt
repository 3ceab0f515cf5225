-- Re-exports from `copying_gc` for the crates above.
pub use Rattle.core_invariant.specs.below.copying_gc.{CanTake, IsCollected, IsSoundReference, Moved, ToChunks, as_reference}
