-- Re-exports from `ledger_step_laws` for the crates above.
pub use Rattle.heap_reading.specs.below.ledger_step_laws.{Rests}
