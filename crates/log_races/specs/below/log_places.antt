-- Re-exports from `log_places` for the crates above.
pub use Rattle.log_touches.specs.below.log_places.{AreOver}
