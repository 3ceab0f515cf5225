-- Re-exports from `heap_image` for the crates above.
pub use Rattle.heap_image.proofs.Faultless.{sound_is_faultless}
