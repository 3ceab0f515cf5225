-- Re-exports from `run_timeline` for the crates above.
pub use Rattle.run_timeline.specs.Timeline.{timeline}
