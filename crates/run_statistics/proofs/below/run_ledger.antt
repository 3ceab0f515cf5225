-- Re-exports from `run_ledger` for the crates above.
pub use Rattle.heap_reading.proofs.below.run_ledger.{entry_tells, heap_end, heap_machine, legal_sound, machine_is_run, steps_are_bounded, tasks_are_out_once, wait_tells}
