-- Re-exports from `run_ledger` for the crates above.
pub use Rattle.leaf_collections.specs.below.run_ledger.{CanBeGiven, Collecting, Due, Ledger, Left, Mark, More, NoWorker, NotDue, NotNeeded, NotSpent, Nothing, Over, Owed, PoolEnough, PoolShort, Refused, RunEnd, Spent, Sweep, gives, heap_of, is_pool_enough, kind_refusal, left_in, marked_at_once, marked_in, on_asked, refused_if, refused_unless, sweep_number, tasks_of}
pub use Rattle.heap_marking.specs.below.run_ledger.{words_in, in_use, unless_wrong_number, Marked, Marking, is_fuel, owns, task_steps, touched, Machine, Pool, chunk_units, NotReady, refused_holding, Fuel, opening}
