-- Re-exports from `heap_image` for the crates above.
pub use Rattle.heap_image.specs.ImageData.{IsSoundPicture, ObjectBefore, RememberedBefore}
pub use Rattle.heap_image.specs.Text.{text_of}
pub use Rattle.heap_image.specs.declared.picture.ImageData.{ImageData}
