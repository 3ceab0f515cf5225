-- Re-exports from `log_places` for the crates above.
pub use Rattle.log_places.specs.Counting.{AreDifferent}
pub use Rattle.log_places.specs.Places.{Covers}
pub use Rattle.log_places.specs.declared.region.Region.{Region}
