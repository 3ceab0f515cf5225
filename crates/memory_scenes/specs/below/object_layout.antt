-- Re-exports from `object_layout` for the crates above.
pub use Rattle.object_layout.specs.ChunkValue.{ChunkValue}
pub use Rattle.object_layout.specs.Chunks.{object_of}
pub use Rattle.object_layout.specs.declared.word.Addr.{Addr}
