-- Re-exports from `walk_laws` for the crates above.
pub use Rattle.core_invariant.specs.below.walk_laws.{IsWalk}
