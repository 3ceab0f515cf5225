-- Re-exports from `object_layout` for the crates above.
pub use Rattle.core_invariant.specs.below.object_layout.{Addr, HaveDistinctNumbers, Birth, Born, Cell, ChunkValue, IsObject, BeginsInFirstUnit, Located, cell_of, chunk_at, has_chunk, located, no_chunk, object_of, put_object, same_address, same_reference, size_of, with_fields, cell_with_int, with_ref, words_in}
