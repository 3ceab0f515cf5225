-- Re-exports from `race_cells` for the crates above.
pub use Rattle.race_cells.specs.CellAccess.{clash}
