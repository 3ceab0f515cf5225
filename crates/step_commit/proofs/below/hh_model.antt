-- Re-exports from `hh_model` for the crates above.
pub use Rattle.core_invariant.proofs.below.hh_model.{at_in, grown_at, in_registers, named_from_in, names_run, path_le, place_within, seen, step_taken, waits_is}
