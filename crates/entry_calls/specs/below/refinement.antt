-- Re-exports from `refinement` for the crates above.
pub use Rattle.heap_marking.specs.below.refinement.{CanGoOnMarking, kept}
