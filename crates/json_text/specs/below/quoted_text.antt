-- Re-exports from `quoted_text` for the crates above.
pub use Rattle.quoted_text.specs.Labels.{task_name}
pub use Rattle.quoted_text.specs.Quoted.{quoted}
