-- Re-exports from `race_cells` for the crates above.
pub use Rattle.race_cells.specs.declared.access.CellAccess.{CellAccess}
pub use Rattle.race_cells.specs.declared.access.CellAccessKind.{CellAccessKind}
pub use Rattle.race_cells.specs.declared.access.CellAccessKind.TheVariants.{AtomicRead, AtomicWrite, PlainRead, PlainWrite}
pub use Rattle.race_cells.specs.Order.{ExtendsPrecedence, StrandOrder}
