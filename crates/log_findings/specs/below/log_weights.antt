-- Re-exports from `log_weights` for the crates above.
pub use Rattle.log_weights.specs.Weights.{units_of, weight_of, weights_of, work_of}
