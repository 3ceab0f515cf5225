-- Re-exports from `run_ledger` for the crates above.
pub use Rattle.core_invariant.specs.below.run_ledger.{words_in, in_use, unless_wrong_number, Marked, Marking, is_fuel, owns, task_steps, touched, Machine, Pool, chunk_units, NotReady, refused_holding, Fuel, opening}
