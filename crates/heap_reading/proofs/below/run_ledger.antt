-- Re-exports from `run_ledger` for the crates above.
pub use Rattle.core_invariant.proofs.below.run_ledger.{collecting_is, entries_leave_others, entry_tells, heap_end, heap_machine, heap_off, heap_view, heaps_fit, held_is, left_step, legal_sound, legal_then, machine_is_run, names_are_held_once, none_is, none_unless, none_where, out_tells, steps_are_bounded, task_step_sound, task_steps_sound, tasks_are_out_once, use_is_bounded, wait_tells}
