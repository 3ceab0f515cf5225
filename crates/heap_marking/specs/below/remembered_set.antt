-- Re-exports from `remembered_set` for the crates above.
pub use Rattle.core_invariant.specs.below.remembered_set.{RememberedValue, redirected, AreAscending, ArePlaces, StandOnce}
