-- Re-exports from `round_trip_laws` for the crates above.
pub use Rattle.round_trip_laws.proofs.Inputs.{recorded_inputs_are_read}
