-- Re-exports from `walk_laws` for the crates above.
pub use Rattle.walk_laws.proofs.Reached.{reached_more, reached_start, reached_within}
