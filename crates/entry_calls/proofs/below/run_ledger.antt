-- Re-exports from `run_ledger` for the crates above.
pub use Rattle.leaf_collections.proofs.below.run_ledger.{machine_is_run, steps_are_bounded}
