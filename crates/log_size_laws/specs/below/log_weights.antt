-- Re-exports from `log_weights` for the crates above.
pub use Rattle.log_findings.specs.below.log_weights.{units_of, weights_of}
