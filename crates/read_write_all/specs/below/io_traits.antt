-- Re-exports from `io_traits` for the crates above.
pub use Rattle.io_traits.specs.Fault.{HasRisen}
pub use Rattle.io_traits.specs.Told.{with_more}
