-- Re-exports from `run_ledger` for the crates above.
pub use Rattle.refinement_laws.specs.below.run_ledger.{AreByBirth, AsksAtMost, CanBeGiven, Collecting, Count, CountsFew, Due, Forked, Fuel, Heap, HoldsOnce, IsPrefix, SomeHeapHas, LeavesTask, Ledger, Left, Long, Machine, Mark, Marked, Marking, More, NoWorker, NotCollecting, NotDue, NotMarking, NotNeeded, NotOut, NotReady, NotSpent, NotWaiting, Nothing, Other, Over, Owed, Pool, PoolEnough, PoolShort, Previous, Ran, Refused, Report, RunEnd, SoundAt, SoundLedger, Spent, Sweep, Swept, TasksAreOut, WorkerPace, after, after_all, after_kind, allocated_by, allocated_in, at_fork, begun_in, by_birth, chunk_units, chunk_words, collected, collecting, unless_wrong_number, emptied, end_numbers, end_of, ends_as, first_refused, first_refused_from, fork_of, forked_heap, fresh, gives, has_no_caller, heap_of, held, held_in, held_not_running, held_not_running_from, holds_name, idle, in_snapshot, in_use, insert_name, is_due, is_fuel, is_in_need, is_last_empty, is_legal, is_open, is_out, is_paced, is_pool_enough, is_private, is_private_by, is_private_line, is_ready, is_small_size, is_to_mark, is_under_way, is_unmarked, join_heaps, kind_refusal, lacks_room, laid_onto, large_survivors, lay, ledger_of, left_in, let_go, long_at, lost, marked_at_once, marked_in, merged, more_of, most_steps, moved_on, moved_to, name_le, pace_noted, on_asked, on_due, on_running, on_waiting, opening, or_fresh, or_idle, owed, owed_after, owed_to_marks, owns, pace_after, pace_after_all, pace_at_end, pace_of, pace_opening, with_allocation, previous_by, put_last, refusal, refused_holding, refused_if, refused_or, refused_unless, report_of, room_behind, settled, small_in, small_survivors, standing, stepped_to, sweep_number, swept_heap, take_of, task_step, task_steps, tasks_of, touched, units, units_in, units_sum, waits_on, waits_since, with_chunk, with_heap, with_heap_at, within, without_empty, words_at, words_in, object_words_of, words_sum}
