-- Re-exports from `ledger_step_laws` for the crates above.
pub use Rattle.heap_reading.proofs.below.ledger_step_laws.{split_leaves}
