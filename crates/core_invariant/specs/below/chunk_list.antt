-- Re-exports from `chunk_list` for the crates above.
pub use Rattle.chunk_list.specs.View.{Level, view_below}
pub use Rattle.chunk_list.specs.contracts.shelf.Shelf as ShelfContracts
pub use Rattle.chunk_list.specs.contracts.view.View as ViewContracts
