-- Re-exports from `log_form` for the crates above.
pub use Rattle.log_form.specs.Events.{Event, event, acts_on, events_of, is_on}
pub use Rattle.log_form.specs.Faults.{bears, releases, log_fault}
