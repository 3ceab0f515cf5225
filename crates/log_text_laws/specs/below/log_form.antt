-- Re-exports from `log_form` for the crates above.
pub use Rattle.log_form.specs.Events.{events_of, is_cut}
pub use Rattle.log_form.specs.Text.{texts_of}
