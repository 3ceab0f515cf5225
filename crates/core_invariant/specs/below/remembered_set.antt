-- Re-exports from `remembered_set` for the crates above.
pub use Rattle.refinement_laws.specs.below.remembered_set.{AreFields, AreAscending, ArePlaces, RememberedValue, RefField, StandOnce, has_source, into, lifted, with_noted_source, notes_in, redirected, same_address, same_source, targets_of}
