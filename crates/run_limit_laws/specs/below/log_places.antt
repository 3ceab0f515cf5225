-- Re-exports from `log_places` for the crates above.
pub use Rattle.run_race_laws.specs.below.log_places.{AreDifferent}
