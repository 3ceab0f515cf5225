-- Re-exports from `run_ledger` for the crates above.
pub use Rattle.core_invariant.specs.below.run_ledger.{CanBeGiven, Collecting, Count, Due, Fuel, Heap, HoldsOnce, IsPrefix, LeavesTask, Ledger, Left, Long, Machine, Mark, More, NoWorker, NotCollecting, NotDue, NotNeeded, NotOut, NotSpent, Nothing, Other, Over, Owed, Pool, PoolEnough, PoolShort, Refused, Report, RunEnd, SoundAt, SoundLedger, Spent, Sweep, TasksAreOut, WorkerPace, after, after_all, after_kind, allocated_by, allocated_in, at_fork, chunk_units, chunk_words, collected, collecting, emptied, end_numbers, ends_as, first_refused, first_refused_from, forked_heap, fresh, gives, heap_of, held, held_in, held_not_running, idle, in_use, is_due, is_fuel, is_in_need, is_legal, is_out, is_paced, is_pool_enough, is_private, is_ready, is_small_size, join_heaps, kind_refusal, lacks_room, ledger_of, left_in, let_go, long_at, lost, marked_at_once, marked_in, merged, most_steps, moved_on, moved_to, pace_noted, on_asked, on_due, on_running, on_waiting, opening, or_fresh, or_idle, owed, owed_to_marks, pace_after, pace_after_all, pace_at_end, pace_of, pace_opening, with_allocation, put_last, refusal, refused_if, refused_or, refused_unless, report_of, settled, standing, stepped_to, sweep_number, swept_heap, take_of, task_step, task_steps, tasks_of, with_chunk, with_heap, within, words_at, words_in, object_words_of, words_sum}
