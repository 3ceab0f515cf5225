-- Re-exports from `log_walk` for the crates above.
pub use Rattle.log_walk.specs.Value.{WalkValue}
