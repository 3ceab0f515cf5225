-- Re-exports from `object_layout` for the crates above.
pub use Rattle.leaf_collections.specs.below.object_layout.{ChunkValue, number_of}
