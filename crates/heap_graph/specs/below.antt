-- Re-exports from lower crates for the crates above.
pub mod image_check
pub mod text_lines
