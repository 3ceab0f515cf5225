-- Re-exports from `turn_lock` for the crates above.
pub use Rattle.turn_entries.specs.below.turn_lock.{HasNoTurn, identity, view}
