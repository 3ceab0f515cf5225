-- Re-exports from `read_write_all` for the crates above.
pub use Rattle.command_answers.specs.below.read_write_all.{input_of}
