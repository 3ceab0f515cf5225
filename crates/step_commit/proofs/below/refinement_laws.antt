-- Re-exports from `refinement_laws` for the crates above.
pub use Rattle.core_invariant.proofs.below.refinement_laws.{frames_go, ran_fits_then, ran_leaves, ran_stands_for}
