-- Re-exports from `run_ledger` for the crates above.
pub use Rattle.run_ledger.specs.Cuts.{CanBeGiven}
pub use Rattle.run_ledger.specs.Entries.{after, after_kind, chunk_units, unless_wrong_number, ends_as, is_fuel, is_out, is_pool_enough, is_ready, kind_refusal, long_at, on_due, on_running, on_waiting, out_from, refusal, refused_holding, refused_if, refused_unless, with_chunk}
pub use Rattle.run_ledger.specs.Heaps.{begun_in, by_birth, chunk_words, collected, emptied, end_numbers, forked_heap, fresh, heap_at, heap_of, held, held_in, in_snapshot, in_use, insert_name, is_last_empty, is_small_size, lacks_room, laid_onto, large_survivors, lay, left_in, let_go, marked_in, merged, name_le, or_fresh, with_allocation, put_last, room_behind, small_in, small_survivors, sweep_number, swept_heap, take_of, units, units_in, units_sum, with_heap, with_heap_at, within, without_empty, words_at, words_in, object_words_of, words_sum}
pub use Rattle.run_ledger.specs.Journals.{IsPrefix, after_all, end_of, first_refused, first_refused_from, is_legal, is_legal_from, ledger_of, opening, refused_or, tasks_of}
pub use Rattle.run_ledger.specs.Laws.{AreByBirth, HoldsOnce, LeavesTask, TasksAreOut}
pub use Rattle.run_ledger.specs.Pace.{fork_of, gives, idle, is_paced, is_to_mark, is_under_way, is_unmarked, marked_at_once, more_of, pace_noted, or_idle, owed, owed_after, owed_to_marks, pace_after, pace_after_all, pace_at_end, pace_of, pace_opening, previous_by, waits_on, waits_since}
pub use Rattle.run_ledger.specs.Reachable.{holds_name, is_name}
pub use Rattle.run_ledger.specs.Report.{held_not_running, held_not_running_from, lost, report_of}
pub use Rattle.run_ledger.specs.Sound.{InHeaps, SomeHeapHas, Sound, SoundAt, SoundLedger, collecting, heap_names, snapshot_at}
pub use Rattle.run_ledger.specs.Space.{AsksAtMost, CountsFew}
pub use Rattle.run_ledger.specs.Steps.{allocated_by, allocated_in, at_fork, has_no_caller, is_due, is_in_need, is_open, is_private, is_private_by, is_private_line, join_heaps, most_steps, moved_on, moved_to, on_asked, owns, settled, standing, stepped_to, task_step, task_steps, touched}
pub use Rattle.run_ledger.specs.Use.{ChunkGoes, UseGoes}
pub use Rattle.run_ledger.specs.declared.data.Heap.{Heap}
pub use Rattle.run_ledger.specs.declared.data.Ledger.{Ledger}
pub use Rattle.run_ledger.specs.declared.data.Owed.TheVariants.{Mark, More, Nothing, Sweep}
pub use Rattle.run_ledger.specs.declared.data.Owed.{Owed}
pub use Rattle.run_ledger.specs.declared.data.Previous.TheVariants.{Forked, Other, Ran}
pub use Rattle.run_ledger.specs.declared.data.Previous.{Previous}
pub use Rattle.run_ledger.specs.declared.data.Refused.TheVariants.{Collecting, Count, Due, Left, Long, Marked, Marking, NoWorker, NotCollecting, NotDue, NotMarking, NotNeeded, NotOut, NotReady, NotSpent, NotWaiting, Over, PoolEnough, PoolShort, Spent, Swept}
pub use Rattle.run_ledger.specs.declared.data.Refused.{Refused}
pub use Rattle.run_ledger.specs.declared.data.Report.{Report}
pub use Rattle.run_ledger.specs.declared.data.RunEnd.TheVariants.{Fuel, Machine, Pool}
pub use Rattle.run_ledger.specs.declared.data.RunEnd.{RunEnd}
pub use Rattle.run_ledger.specs.declared.data.WorkerPace.{WorkerPace}
