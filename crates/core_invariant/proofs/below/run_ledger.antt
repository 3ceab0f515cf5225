-- Re-exports from `run_ledger` for the crates above.
pub use Rattle.refinement_laws.proofs.below.run_ledger.{Born, Full, SoundLedger, accepted_on, allocated_end, birth_cases, born_both, born_from, born_is, born_on, can_tells, chunks_are_used, collecting_is, collections_keep_just, entries_leave_others, entry_tells, heap_end, heap_machine, heap_off, heap_there, heap_view, heap_words, heaps_fit, held_is, holds_from_in, in_birth, in_from_holds, insert_cases, journals_can_be_cut, kept_weight, left_step, legal_booked, legal_sound, legal_then, machine_goes_on, machine_is_run, moved_to_end, names_are_held_once, none_is, none_unless, none_where, out_tells, placed_since, ran_tells, same_from_is_name, step_leaves, stepped_machine, steps_are_bounded, steps_last, task_step_machine, task_step_sound, task_steps_more, task_steps_sound, task_steps_steps, tasks_are_out_once, use_is_bounded, wait_run, wait_tells, with_heap_any}
