-- Re-exports from `chunk_list` for the crates above.
pub use Rattle.leaf_collections.specs.below.chunk_list.ShelfContracts as ShelfContracts
pub use Rattle.leaf_collections.specs.below.chunk_list.ViewContracts as ViewContracts
