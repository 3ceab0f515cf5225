-- Re-exports from `ledger_step_laws` for the crates above.
pub use Rattle.core_invariant.proofs.below.ledger_step_laws.{rested_view, with_off}
