-- Re-exports from `walk_laws` for the crates above.
pub use Rattle.refinement.specs.below.walk_laws.{IsWalk}
