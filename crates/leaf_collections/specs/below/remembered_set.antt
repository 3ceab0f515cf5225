-- Re-exports from `remembered_set` for the crates above.
pub use Rattle.core_invariant.specs.below.remembered_set.{AreAscending, ArePlaces, RememberedValue, StandOnce, redirected, same_address}
