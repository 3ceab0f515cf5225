-- Re-exports from `remembered_set` for the crates above.
pub use Rattle.remembered_set.specs.Moved.{AreFields, AreAscending, ArePlaces, into, new_reference, redirected, same_address, target_of, targets_of, written}
pub use Rattle.remembered_set.specs.Sources.{RememberedValue, StandOnce, has_source, lifted, with_noted_source, notes_in, same_source}
pub use Rattle.remembered_set.specs.declared.remembered.RefField.{RefField}
