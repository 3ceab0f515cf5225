-- Re-exports from `ancestor_laws` for the crates above.
pub use Rattle.ancestor_laws.specs.Meeting.{IsLowestCommon}
