-- Re-exports from `refinement` for the crates above.
pub use Rattle.core_invariant.specs.below.refinement.{CanGoOnMarking, kept}
