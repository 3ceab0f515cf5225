-- Re-exports from `run_ledger` for the crates above.
pub use Rattle.refinement.specs.below.run_ledger.{Heap, Ledger, RunEnd, Fuel, Machine, Pool, heap_at, heap_of, in_use, let_go, units_in, with_heap_at, out_from, Refused, Over, Spent, NoWorker, NotReady, kind_refusal, is_fuel, refused_if, refused_unless, refused_holding, Collecting, NotOut, or_fresh, task_steps, is_out, on_running, collecting, after, is_legal, ledger_of, opening, small_in, take_of, object_words_of, words_sum, is_pool_enough, words_at, SoundLedger, tasks_of, is_name, fresh, put_last, is_small_size, allocated_by, allocated_in, settled, moved_on, stepped_to, task_step, is_private, is_due, is_in_need, standing, Long, most_steps, is_ready, words_in, with_allocation, moved_to, Due, NotNeeded, NotSpent, NotDue, units, refusal, has_no_caller, owns, touched, AreByBirth, AsksAtMost, CanBeGiven, Count, CountsFew, Forked, HoldsOnce, IsPrefix, SomeHeapHas, LeavesTask, Left, Mark, Marked, Marking, More, NotCollecting, NotMarking, NotWaiting, Nothing, Other, Owed, PoolEnough, PoolShort, Previous, Ran, Report, SoundAt, Sweep, Swept, TasksAreOut, WorkerPace, after_all, after_kind, at_fork, begun_in, by_birth, chunk_units, chunk_words, collected, unless_wrong_number, emptied, end_numbers, end_of, ends_as, first_refused, first_refused_from, fork_of, forked_heap, gives, held, held_in, held_not_running, held_not_running_from, holds_name, idle, in_snapshot, insert_name, is_last_empty, is_open, is_paced, is_private_by, is_private_line, is_to_mark, is_under_way, is_unmarked, join_heaps, lacks_room, laid_onto, large_survivors, lay, left_in, long_at, lost, marked_at_once, marked_in, merged, more_of, name_le, pace_noted, on_asked, on_due, on_waiting, or_idle, owed, owed_after, owed_to_marks, pace_after, pace_after_all, pace_at_end, pace_of, pace_opening, previous_by, refused_or, report_of, room_behind, small_survivors, sweep_number, swept_heap, units_sum, waits_on, waits_since, with_chunk, with_heap, within, without_empty}
