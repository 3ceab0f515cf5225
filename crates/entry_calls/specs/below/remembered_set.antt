-- Re-exports from `remembered_set` for the crates above.
pub use Rattle.heap_marking.specs.below.remembered_set.{RememberedValue, redirected, AreAscending, ArePlaces, StandOnce}
