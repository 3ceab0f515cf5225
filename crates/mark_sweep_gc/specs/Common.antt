-- The names of lower crates that these specifications use. Declares nothing.
pub use Rattle.chunk_pool.specs.PoolValue.{PoolValue, slot_at, slot_units, units_in_use}
pub use Rattle.leaf_heap.specs.LeafHeapValue.{HaveDistinctNumbers, LeafHeapValue, IsFresh}
pub use Rattle.object_layout.specs.Cell.{IsObject, no_cell, Born, Cell, Hole, Mark, Moved}
pub use Rattle.object_layout.specs.ChunkValue.{ChunkValue}
pub use Rattle.object_layout.specs.Chunks.{cell_of, object_of, chunk_at, place_in}
pub use Rattle.object_layout.specs.Graph.{HasObjectAt, RefersTo}
pub use Rattle.object_layout.specs.Objects.{sifted_cells}
pub use Rattle.object_layout.specs.declared.word.Addr.{Addr}
pub use Rattle.walk_laws.specs.Reached.{IsReached}
