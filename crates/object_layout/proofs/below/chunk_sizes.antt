-- Re-exports from `chunk_sizes` for the crates above.
pub use Rattle.chunk_sizes.proofs.Filled.{Filled, filled_more, filled_next}
