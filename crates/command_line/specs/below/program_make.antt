-- Re-exports from `program_make` for the crates above.
pub use Rattle.program_make.specs.Text.{size_limit}
