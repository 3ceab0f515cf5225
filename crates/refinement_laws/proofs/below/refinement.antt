-- Re-exports from `refinement` for the crates above.
pub use Rattle.refinement.proofs.changes.Alone.{belongings_kept, belongings_own}
pub use Rattle.refinement.proofs.changes.Giving.{gives_kept}
pub use Rattle.refinement.proofs.changes.Same.{source_same}
pub use Rattle.refinement.proofs.changes.Shown.{noted_mutable}
pub use Rattle.refinement.proofs.changes.UpdateOneTask.{at_belongings, off_belongings}
pub use Rattle.refinement.proofs.notes.Notes.{notes_stay, same_whole}
pub use Rattle.refinement.proofs.notes.Rooted.{root_same}
pub use Rattle.refinement.proofs.notes.Roots.{name_at, frame_name}
pub use Rattle.refinement.proofs.objects.Carry.{object_kept, task_kept, all_set, field_of}
pub use Rattle.refinement.proofs.objects.Members.{in_chunk, in_objects, lies_in, from_flat, held_object, object_held}
pub use Rattle.refinement.proofs.changes.Own.{stepped}
pub use Rattle.refinement.proofs.changes.Target.{goes_on}
pub use Rattle.refinement.proofs.objects.LaidOut.{numbers, units_of}
pub use Rattle.refinement.proofs.changes.Store as Store
