-- Re-exports from `walk_laws` for the crates above.
pub use Rattle.refinement_laws.proofs.below.walk_laws.{reached_more, reached_start, reached_within}
