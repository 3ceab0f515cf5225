-- Re-exports from `image_check` for the crates above.
pub use Rattle.image_check.specs.ImageFault.{image_fault, objects_in}
pub use Rattle.image_check.specs.declared.cause.ImageFault.{ImageFault}
