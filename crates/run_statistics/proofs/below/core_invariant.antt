-- Re-exports from `core_invariant` for the crates above.
pub use Rattle.heap_reading.proofs.below.core_invariant.{asked_same, asks_is, asks_two, at_part, begun_is, beyond_machine, counted_is, end_now, entry_on, fits_now, on_is, ran_answer, refused_is, second_gives_first, since_is, some_flat, status, steps_now, worker_by_end}
