-- Re-exports from `run_ledger` for the crates above.
pub use Rattle.core_invariant.proofs.below.run_ledger.{heap_machine, held_is, ran_tells, same_from_is_name, steps_are_bounded, task_steps_steps, tasks_are_out_once}
