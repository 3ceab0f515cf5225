-- Re-exports from `frozen_views` for the crates above.
pub use Rattle.frozen_views.proofs.Levels.{on_ok}
pub use Rattle.frozen_views.proofs.PieceLists as PieceLists
