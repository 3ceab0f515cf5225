-- Re-exports from `io_traits` for the crates above.
pub use Rattle.io_traits.specs.Fault.{HasRisen}
