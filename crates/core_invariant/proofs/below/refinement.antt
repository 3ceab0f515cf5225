-- Re-exports from `refinement` for the crates above.
pub use Rattle.refinement_laws.proofs.below.refinement.{belongings_kept, stepped, goes_on, at_belongings, off_belongings, frame_name, name_at, all_set, field_of, object_kept, task_kept, numbers, units_of, from_flat, held_object, in_chunk, in_objects, lies_in, object_held}
pub use Rattle.refinement_laws.proofs.below.refinement.Store as Store
