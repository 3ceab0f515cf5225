-- Re-exports from `copying_gc` for the crates above.
pub use Rattle.leaf_collections.specs.below.copying_gc.{Moved, ToChunks}
