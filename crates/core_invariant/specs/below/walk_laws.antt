-- Re-exports from `walk_laws` for the crates above.
pub use Rattle.refinement_laws.specs.below.walk_laws.{IsWalk}
