-- Re-exports from `object_layout` for the crates above.
pub use Rattle.core_invariant.specs.below.object_layout.{Addr, Born, Cell, ChunkValue, Hole, IsRef, Located, Mark, Moved, held_words, located_by, moved_to, number_of, objects_from, size_of, word_of_ref}
