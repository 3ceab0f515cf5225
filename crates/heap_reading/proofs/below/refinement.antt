-- Re-exports from `refinement` for the crates above.
pub use Rattle.core_invariant.proofs.below.refinement.{at_belongings, held_object, in_chunk, in_objects, name_at, object_held, object_kept, task_kept}
