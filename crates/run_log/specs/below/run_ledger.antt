-- Re-exports from `run_ledger` for the crates above.
pub use Rattle.run_deltas.specs.below.run_ledger.{tasks_in, tasks_of, Ledger, refusal, after, opening, is_legal_from, is_legal, machine_of, Machine, end_of}
