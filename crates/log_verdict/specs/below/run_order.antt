-- Re-exports from `run_order` for the crates above.
pub use Rattle.run_order.specs.Order.{run_order}
