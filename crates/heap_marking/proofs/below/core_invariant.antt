-- Re-exports from `core_invariant` for the crates above.
pub use Rattle.core_invariant.proofs.SameLength.{same_length}
pub use Rattle.core_invariant.proofs.TaskTaken.{worker_there, at_work, calls, calls_of, has_node, some_calls, took_world, took_part, took_others}
pub use Rattle.core_invariant.proofs.FirstCauses.{found_first, nothing_first}
pub use Rattle.core_invariant.proofs.JournalGoesOn.{journal_by, four_changed, halted_fit, room_fit, room_world}
pub use Rattle.core_invariant.proofs.EntryMade.{entry_on}
pub use Rattle.core_invariant.proofs.StepsEntered.{steps_small, ran_world, ran_part, ran_others}
pub use Rattle.core_invariant.proofs.NothingMoves.{fuel_all, fuel_world}
pub use Rattle.core_invariant.proofs.BeforeTheEnd.{used_now, outputs_now, tree_long}
pub use Rattle.core_invariant.proofs.FirstValue.{first_by}
pub use Rattle.core_invariant.proofs.FreeChunks.{enough_is}
pub use Rattle.core_invariant.proofs.CausesTold.{took_answer}
pub use Rattle.core_invariant.proofs.RootsByAccounts.{are_fields}
