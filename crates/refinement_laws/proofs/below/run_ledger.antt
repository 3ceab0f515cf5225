-- Re-exports from `run_ledger` for the crates above.
pub use Rattle.refinement.proofs.below.run_ledger.{machine_goes_on, entry_tells, legal_then, heap_machine, journals_can_be_cut, tasks_are_out_once, kind_machine, machine_is_run, is_name_itself, same_from_is_name, wait_run, allocated_end, ran_tells, collecting_is, task_step_machine, steps_last, none_unless, SoundLedger, collecting, Born, Full, accepted_on, birth_cases, born_both, born_from, born_is, born_on, can_tells, chunks_are_used, collections_keep_just, entries_leave_others, heap_end, heap_off, heap_there, heap_view, heap_words, heaps_fit, held_is, holds_from_in, in_birth, in_from_holds, insert_cases, kept_weight, left_step, legal_booked, legal_sound, moved_to_end, names_are_held_once, none_is, none_where, out_tells, placed_since, step_leaves, stepped_machine, steps_are_bounded, task_step_sound, task_steps_more, task_steps_sound, task_steps_steps, use_is_bounded, wait_tells, with_heap_any}
