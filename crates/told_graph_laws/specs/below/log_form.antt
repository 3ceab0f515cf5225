-- Re-exports from `log_form` for the crates above.
pub use Rattle.log_form.specs.Events.{Event, is_on}
