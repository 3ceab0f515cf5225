-- Re-exports from `core_invariant` for the crates above.
pub use Rattle.core_invariant.proofs.BeforeTheEnd.{node_now, part_idle, stands_now, tree_long}
pub use Rattle.core_invariant.proofs.CellsRead.{seen_object}
pub use Rattle.core_invariant.proofs.EntryMade.{ChangesRest, IsWell, RestIsWell, RestStays, accounts_are, changed_form, each_form, entered_world, free_at_rest, free_before, none_at, part_fits, same_form, still_goes, task_is_out, tasks_apart, well_at}
pub use Rattle.core_invariant.proofs.FieldsLed.{by_chunks}
pub use Rattle.core_invariant.proofs.FieldsNoted.{noted_is, noted_of}
pub use Rattle.core_invariant.proofs.FreeChunks.{refs_long}
pub use Rattle.core_invariant.proofs.HeapCounts.{counted_from}
pub use Rattle.core_invariant.proofs.HeapForms.{places_form}
pub use Rattle.core_invariant.proofs.HeldTasks.{fits_held, stands_for_held}
pub use Rattle.core_invariant.proofs.Levels.{level_is}
pub use Rattle.core_invariant.proofs.ObjectRewritten.{chunks_elsewhere, chunks_put, chunks_same, form_written, room_written}
pub use Rattle.core_invariant.proofs.RootsHeld.{chunk_in}
pub use Rattle.core_invariant.proofs.SameLength.{same_length}
pub use Rattle.core_invariant.proofs.StepAccounts.{After}
pub use Rattle.core_invariant.proofs.StepsEntered.{status}
pub use Rattle.core_invariant.proofs.StepsMade.{MakesSteps, steps_others, steps_world}
pub use Rattle.core_invariant.proofs.TaskTaken.{HasCalls, has_calls, lets_go, made_by, node_by, node_off, parent_is, some_calls}
pub use Rattle.core_invariant.proofs.UnitsMeasured.{all_kept, measured_both, measured_kept, measured_written, owner_held, part_kept, relabelled_keeps, relabelled_measured, relabelled_own}
pub use Rattle.core_invariant.proofs.PartFitsMachine as PartFitsMachine
