-- Re-exports from `run_ledger` for the crates above.
pub use Rattle.core_invariant.specs.below.run_ledger.{AreByBirth, Collecting, Fuel, Heap, Ledger, Machine, Marked, Marking, NotReady, Pool, PoolEnough, PoolShort, Refused, RunEnd, begun_in, by_birth, chunk_units, chunk_words, collected, unless_wrong_number, end_numbers, end_of, heap_of, holds_name, in_use, insert_name, is_fuel, is_legal, is_paced, is_pool_enough, laid_onto, large_survivors, lay, left_in, let_go, marked_in, name_le, owns, refused_holding, refused_if, refused_unless, room_behind, small_in, small_survivors, sweep_number, task_steps, touched, units, units_in, units_sum, words_at, words_in, object_words_of, words_sum, Owed, WorkerPace, gives, owed, pace_at_end, pace_of, CanBeGiven, Due, Left, Mark, More, NoWorker, NotDue, NotNeeded, NotSpent, Nothing, Over, Spent, Sweep, kind_refusal, marked_at_once, on_asked, tasks_of}
