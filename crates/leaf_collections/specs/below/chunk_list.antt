-- Re-exports from `chunk_list` for the crates above.
pub use Rattle.core_invariant.specs.below.chunk_list.{Level}
pub use Rattle.core_invariant.specs.below.chunk_list.ShelfContracts as ShelfContracts
pub use Rattle.core_invariant.specs.below.chunk_list.ViewContracts as ViewContracts
