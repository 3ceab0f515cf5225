-- Re-exports from `ledger_step_laws` for the crates above.
pub use Rattle.leaf_collections.specs.below.ledger_step_laws.{aside}
