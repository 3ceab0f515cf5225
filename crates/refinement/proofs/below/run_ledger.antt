-- Re-exports from `run_ledger` for the crates above.
pub use Rattle.run_ledger.proofs.Booked.{wait_run}
pub use Rattle.run_ledger.proofs.Bounds.{ran_tells, steps_are_bounded, task_steps_steps}
pub use Rattle.run_ledger.proofs.Chunks.{Full, heap_words}
pub use Rattle.run_ledger.proofs.Collections.{Born, born_both, born_from, born_is, born_on, collections_keep_just}
pub use Rattle.run_ledger.proofs.Cuts.{journals_can_be_cut, legal_then, none_is}
pub use Rattle.run_ledger.proofs.Frames.{entries_leave_others, heap_off, heap_view, held_is, is_held, left_step}
pub use Rattle.run_ledger.proofs.Going.{machine_goes_on}
pub use Rattle.run_ledger.proofs.Held.{birth_cases, in_birth, insert_cases, placed_since}
pub use Rattle.run_ledger.proofs.Holders.{allocated_end, heap_end, moved_to_end, none_holding, tasks_are_out_once}
pub use Rattle.run_ledger.proofs.Journals.{accepted_on, collecting_is, entry_sound, entry_tells, legal_sound, none_unless, none_where, out_tells, wait_tells}
pub use Rattle.run_ledger.proofs.Machine.{heap_machine, kind_machine, machine_is_run, stepped_machine, task_step_machine, task_steps_more}
pub use Rattle.run_ledger.proofs.Members.{holds_from_in, in_from_holds, is_name_itself, same_from_is_name}
pub use Rattle.run_ledger.proofs.Sound.{SoundLedger, collecting}
pub use Rattle.run_ledger.proofs.Space.{heaps_fit, legal_booked, use_is_bounded}
pub use Rattle.run_ledger.proofs.Steps.{can_tells, heap_of_task, heap_there, running_at, step_leaves, steps_last, task_step_sound, task_steps_sound}
pub use Rattle.run_ledger.proofs.Stocks.{names_are_held_once, with_heap_any}
pub use Rattle.run_ledger.proofs.Use.{chunks_are_used, entries_use, same_use}
pub use Rattle.run_ledger.proofs.Weights.{kept_weight}
