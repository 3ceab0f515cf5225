-- Re-exports from `walk_laws` for the crates above.
pub use Rattle.run_ledger.specs.below.walk_laws.{IsReached, IsWalk}
