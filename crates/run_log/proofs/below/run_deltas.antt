-- Re-exports from `run_deltas` for the crates above.
pub use Rattle.run_deltas.proofs.Machines.{machine_moves}
