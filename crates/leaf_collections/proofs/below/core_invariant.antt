-- Re-exports from `core_invariant` for the crates above.
pub use Rattle.core_invariant.proofs.BeforeTheEnd.{end_now, outputs_now, steps_now, tree_long, used_now}
pub use Rattle.core_invariant.proofs.CausesTold.{took_answer, refused_is}
pub use Rattle.core_invariant.proofs.CellsRead.{fresh_off, object_seen, seen_object}
pub use Rattle.core_invariant.proofs.EntryMade.{entry_on}
pub use Rattle.core_invariant.proofs.FirstCauses.{found_first, nothing_first}
pub use Rattle.core_invariant.proofs.FirstValue.{first_by}
pub use Rattle.core_invariant.proofs.FreeChunks.{enough_is, refs_long}
pub use Rattle.core_invariant.proofs.HeapCounts.{counted_from, is_spare, large_are, names_are, small_names}
pub use Rattle.core_invariant.proofs.HeapLaidOut.{apart_here, distinct_from, inside_from, place_there, same_chunk}
pub use Rattle.core_invariant.proofs.JournalGoesOn.{four_changed, halted_fit, journal_by, room_fit, room_world}
pub use Rattle.core_invariant.proofs.NothingMoves.{fuel_all, fuel_world}
pub use Rattle.core_invariant.proofs.PartFitsMachine.{second_gives_first}
pub use Rattle.core_invariant.proofs.RootsByAccounts.{are_fields}
pub use Rattle.core_invariant.proofs.SameLength.{same_length}
pub use Rattle.core_invariant.proofs.StepsEntered.{ran_answer, ran_others, ran_part, ran_world, status, steps_small, beyond_machine}
pub use Rattle.core_invariant.proofs.TaskTaken.{at_work, calls, calls_of, has_node, some_calls, took_others, took_part, took_world, worker_there}
pub use Rattle.core_invariant.proofs.UnitsMeasured.{measured_both}
pub use Rattle.core_invariant.proofs.NextStepAsks.{asked_same}
