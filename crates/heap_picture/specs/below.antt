-- Re-exports from lower crates for the crates above.
pub mod heap_image
pub mod image_check
