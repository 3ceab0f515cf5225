-- Re-exports from `log_text_laws` for the crates above.
pub use Rattle.log_text_laws.specs.below.log_form.{events_of, is_cut}
