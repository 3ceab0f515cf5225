-- Re-exports from `race_scan` for the crates above.
pub use Rattle.race_scan.specs.declared.cells.FoundRace.{FoundRace}
