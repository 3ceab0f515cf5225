-- Re-exports from `ledger_step_laws` for the crates above.
pub use Rattle.core_invariant.proofs.below.ledger_step_laws.{heap_then, legal_knows, rested_knows, rested_view, rested_worker, split_leaves, with_at, with_off}
