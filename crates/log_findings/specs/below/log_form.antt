-- Re-exports from `log_form` for the crates above.
pub use Rattle.log_left.specs.below.log_form.{LocatedFault, events_of, is_cut, log_fault}
