-- Re-exports from `remembered_set` for the crates above.
pub use Rattle.core_invariant.specs.below.remembered_set.{RememberedValue, RefField, has_source, lifted, with_noted_source, notes_in}
