-- Re-exports from `remembered_set` for the crates above.
pub use Rattle.refinement.specs.below.remembered_set.{RefField, target_of, new_reference, redirected, written, StandOnce, same_source, AreFields, into, targets_of, AreAscending, ArePlaces, RememberedValue, has_source, lifted, with_noted_source, notes_in, same_address}
