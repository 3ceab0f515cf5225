-- Re-exports from `walk_laws` for the crates above.
pub use Rattle.walk_laws.specs.Reached.{IsReached, IsWalk}
