-- Re-exports from `refinement_laws` for the crates above.
pub use Rattle.heap_reading.proofs.below.refinement_laws.{all_fit_together, handed_on}
