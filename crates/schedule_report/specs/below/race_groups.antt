-- Re-exports from `race_groups` for the crates above.
pub use Rattle.race_groups.specs.Shown.{RacesAreShown}
pub use Rattle.race_groups.specs.declared.shown.ShownRaces.{ShownRaces}
