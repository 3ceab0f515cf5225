-- Re-exports from `run_deltas` for the crates above.
pub use Rattle.run_log.specs.below.run_deltas.{act_by, act_of, deed, deed_of, if_there, number_in, number_place, reference_in, step_act_of, machine_after, stepped, Deed, Allocates, Counts, Freezes, Prints, Reads, Swaps, Writes, Number, Reference}
